use Rattle.std.proofs.Common.{◌-◌, Ok, Err, OnOk, OnErr, Result, arith}
use Rattle.ug_edge.proofs.SessionLemmas.{session_bytes-extended, session_bytes-same}
use Rattle.ug_edge.proofs.sessions.extend_last.Goals as goal

on_ok : {T E : Type 0} (r : Result T E) {P Q : Type 0} → (P → Q) → OnOk r P → OnOk r Q
on_ok (Ok x) f p = f p
on_ok (Err e) f p = tt

on_err : {T E : Type 0} (r : Result T E) {P Q : Type 0} → (P → Q) → OnErr r P → OnErr r Q
on_err (Ok x) f p = tt
on_err (Err e) f p = f p

pub returns-clause-ok : goal.returns-clause-ok
returns-clause-ok c =
    on_ok c.extend_from_slice.result
    (λ grown. session_bytes-extended c.args.kept.now.items (c.len-last.result - 1) c.at_mut.result.now c.extend_from_slice.new.self c.args.piece.now c.at_mut.ensures.value (omega arith) grown)
    c.extend_from_slice.ensures.ok

pub returns-clause-err : goal.returns-clause-err
returns-clause-err c =
    on_err c.extend_from_slice.result
    (λ same. session_bytes-same c.args.kept.now.items (c.len-last.result - 1) c.at_mut.result.now c.extend_from_slice.new.self c.at_mut.ensures.value same)
    c.extend_from_slice.ensures.err
