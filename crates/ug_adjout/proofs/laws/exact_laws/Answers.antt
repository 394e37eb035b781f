use Rattle.ug_adjout.specs.PendingLaws.{exact-nothing_out, exact-with_desired, exact-with_all_forced, exact-with_all_formatted}
use Rattle.ug_adjout.proofs.laws.exact_laws.Goals as goal

pub returns-clause-first : goal.returns-clause-first
returns-clause-first g c cmp same = exact-nothing_out same

pub returns-clause-desired : goal.returns-clause-desired
returns-clause-desired g c cmp total exact same a key value = exact-with_desired total exact same a key value

pub returns-clause-forced : goal.returns-clause-forced
returns-clause-forced g c cmp total exact same a = exact-with_all_forced total exact same a

pub returns-clause-formatted : goal.returns-clause-formatted
returns-clause-formatted g c cmp total exact same a keys = exact-with_all_formatted total exact same keys a
