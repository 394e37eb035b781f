use Rattle.std.proofs.Common.{[], sym, subst}
use Rattle.ug_pieces.specs.ReadingLaws.{TakesFront-none}
use Rattle.ug_hearing.specs.declared.session.Session.{Session}
use Rattle.ug_audit.specs.Heard.{HasHeard}
use Rattle.ug_audit.specs.Verdicts.{IsVerdictOn, most_bytes}
use Rattle.ug_audit.proofs.Halting.{stop_of, same_of}
use Rattle.ug_audit.proofs.reader.hear.Goals as goal

pub returns-in-Err-clause-stopped : goal.returns-in-Err-clause-stopped
returns-in-Err-clause-stopped g c = record { read = []; taken = TakesFront-none (g.E.Source.left c.args.source.now); so = tt }

pub returns-in-Err-read_pieces-clause-stopped : goal.returns-in-Err-read_pieces-clause-stopped
returns-in-Err-read_pieces-clause-stopped g c =
    let h = c.in-Err-read_pieces.ensures.halted in
    record { read = h.read; taken = h.taken; so = stop_of c.in-Err-read_pieces.halt c.in-Ok.listener c.read_pieces.new.taker c.args.session.now c.read_pieces.new.context h.read h.so }

pub returns-in-Err-read_pieces-clause-same : goal.returns-in-Err-read_pieces-clause-same
returns-in-Err-read_pieces-clause-same g c = let h = c.in-Err-read_pieces.ensures.halted in same_of c.in-Err-read_pieces.halt c.in-Ok.listener c.read_pieces.new.taker c.args.session.now c.read_pieces.new.context h.read h.so

pub returns-in-Ok-verdict_of-clause-ok : goal.returns-in-Ok-verdict_of-clause-ok
unfolding most_bytes
returns-in-Ok-verdict_of-clause-ok g c =
    let h = c.in-Ok-read_pieces.ensures.ok in
    let same = h.so.2.0 in
    let heard = h.so.2.1 c.args.capabilities [] c.in-Ok.ensures.heard in
    record {
      read = h.read;
      taken = h.taken;
      so = record {
        ended = h.so.0;
        within = h.so.1;
        on = subst (λ (s : Session). IsVerdictOn c.args.capabilities s h.read c.in-Ok-verdict_of.verdict) same
            (c.in-Ok-verdict_of.ensures c.args.capabilities h.read (subst (λ (s : Session). HasHeard c.args.capabilities s c.read_pieces.new.taker h.read) (sym same) heard));
      };
    }
