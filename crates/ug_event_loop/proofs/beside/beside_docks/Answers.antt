use Rattle.std.proofs.Common.{sym, subst}
use denote.Exit.{no}
use denote.Param.Send.{param_send, param_sync, arg_send, arg_sync}
use Rattle.ug_sender.specs.Posts.{AreHere, posts_of}
use Rattle.ug_event_loop.proofs.beside.beside_docks.Goals as goal

pub scoped-requires : goal.scoped-requires
scoped-requires g c =
    let here : AreHere c.args.turnstile.now.id (posts_of c.moor-crew.result) =
    subst (λ ps. AreHere c.args.turnstile.now.id ps) (sym c.moor-crew.ensures) c.requires.crew in
    let N = param_send 0 _ (arg_send _ no _ c.type_bounds.send-N) in
    let W = param_send 2 _ (arg_send _ no _ c.type_bounds.send-W) in
    let M = param_send 3 _ (arg_send _ no _ c.type_bounds.send-S) in
    let Job = param_send 7 _ (arg_send _ no _ c.type_bounds.send-S-Job) in
    let Said = param_send 8 _ (arg_send _ no _ c.type_bounds.send-S-Said) in
    let N_sync = param_sync 0 _ (arg_sync _ no _ c.type_bounds.sync-N) in
    let R = param_sync 1 _ (arg_sync _ no _ c.type_bounds.sync-R) in
    record { at = λ a. ((N, W, M, Job, Said, N_sync, R), (c.requires.at, (c.requires.here, (here, (c.requires.form, (N, W, M, Job, Said, N_sync, R)))))) }
