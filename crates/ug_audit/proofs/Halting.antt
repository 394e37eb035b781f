-- Reading that ended early.
use Rattle.std.proofs.Common.{◌≡◌, ℕ, List}
use Rattle.ug_types.specs.declared.memory.NoMemory.{NoMemory}
use Rattle.ug_pieces.specs.declared.halt.Halt.{Halt}
use Rattle.ug_pieces.specs.declared.halt.Halt.TheVariants as halts
use Rattle.ug_pieces.specs.Pieces.{IsHalt}
use Rattle.ug_hearing.specs.declared.session.Session.{Session}
use Rattle.ug_audit.specs.declared.listener.Listener.{Listener}
use Rattle.ug_audit.specs.Heard.{HasGone}
use Rattle.ug_audit.specs.Verdicts.{IsStop, most_bytes}

pub stop_of : (halt : Halt NoMemory) (t u : Listener) (s s' : Session) (read : List ℕ) → IsHalt halt 1073741824 (HasGone t s u s') (λ bytes stop. s' ≡ s) read → IsStop halt read
unfolding most_bytes
stop_of halts.Read t u s s' read h = h.0
stop_of halts.NoMemory t u s s' read h = tt
stop_of halts.TooLong t u s s' read h = h.0
stop_of (halts.Stopped stop) t u s s' read h = tt

pub same_of : (halt : Halt NoMemory) (t u : Listener) (s s' : Session) (read : List ℕ) → IsHalt halt 1073741824 (HasGone t s u s') (λ bytes stop. s' ≡ s) read → s' ≡ s
same_of halts.Read t u s s' read h = h.1.0
same_of halts.NoMemory t u s s' read h = h.1.0
same_of halts.TooLong t u s s' read h = h.1.0
same_of (halts.Stopped stop) t u s s' read h = h
