use denote.Exit.{no, yes}
use denote.Param.{layout}
use denote.Param.Send.{param_send, param_sync, arg_send, arg_sync}
use Rattle.ug_event_loop.proofs.beside.fn.beside_docks.scope.Goals as goal

pub attend_beside-requires-clause-starter : goal.attend_beside-requires-clause-starter
attend_beside-requires-clause-starter g c κs within =
    let sends = c.requires.sends in
    let N = param_send 0 _ (arg_send _ yes _ (param_send 0 _ (arg_send (layout g.row.N) no _ sends.0))) in
    let W = param_send 2 _ (arg_send _ yes _ (param_send 2 _ (arg_send (layout g.row.W) no _ sends.1))) in
    let M = param_send 3 _ (arg_send _ yes _ (param_send 3 _ (arg_send (layout g.row.S) no _ sends.2))) in
    let Job = param_send 4 _ (arg_send _ yes _ (param_send 4 _ (arg_send (layout g.row.S-Job) no _ sends.3))) in
    let Said = param_send 5 _ (arg_send _ yes _ (param_send 5 _ (arg_send (layout g.row.S-Said) no _ sends.4))) in
    let N_sync = param_sync 0 _ (arg_sync _ yes _ (param_sync 0 _ (arg_sync (layout g.row.N) no _ sends.5))) in
    let R = param_sync 1 _ (arg_sync _ yes _ (param_sync 1 _ (arg_sync (layout g.row.R) no _ sends.6))) in
    record { at = λ place. ((N, W, M, Job, Said, N_sync, R), (c.requires.at, (N, W, M, Job, Said, N_sync, R))) }
