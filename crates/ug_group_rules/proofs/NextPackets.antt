-- What is so of each of the five packets that may be next is so of the one that is.
use Rattle.std.proofs.Common.{◌≡◌, Bool, true, false, List, refl}
use Rattle.std.specs.Prelude.{◌&&◌, not}
use Rattle.ug_types.specs.declared.key.Key.{Key}
use Rattle.ug_types.specs.declared.route.OutAttrs.{OutAttrs}
use Rattle.ug_adjout.specs.Formatting.{Due}
use Rattle.ug_adjout.specs.Formatting.Due.{Nothing, Withdraws, Announces}
use Rattle.ug_speaker.proofs.Bools.{both_so, not_so}
use Rattle.ug_group_rules.specs.Packets.{Says, Withdrawn, Announced, EndOfRib, RefreshBegins, RefreshEnds, routes_due}
use Rattle.ug_group_rules.specs.Machine.{Subgroup, is_owed, says_by, says_next}

pub and-unless : (a b : Bool) → (a && not b) ≡ false → b ≡ false → a ≡ false
and-unless true true e f = absurd cc
and-unless true false e f = absurd cc
and-unless false b e f = refl

module _ (x : Subgroup) (IsSo : Says → Type 0) where
  pub record IsEachSo : Type 0 where
    pub begins : is_owed x.phase ≡ true → x.ending ≡ false → IsSo RefreshBegins
    pub withdraws : (keys : List Key) → routes_due x.key x.out ≡ Withdraws keys → IsSo (Withdrawn keys)
    pub announces : (o : OutAttrs) (keys : List Key) → routes_due x.key x.out ≡ Announces o keys → IsSo (Announced o keys)
    pub end_of_rib : routes_due x.key x.out ≡ Nothing → x.ending ≡ true → IsSo EndOfRib
    pub ends : routes_due x.key x.out ≡ Nothing → is_owed x.phase ≡ false → x.ending ≡ false → IsSo RefreshEnds

  module _ (each : IsEachSo) where
    ended_so : (is_owed x.phase && not x.ending) ≡ false → routes_due x.key x.out ≡ Nothing → (b : Bool) → x.ending ≡ b → IsSo (says_by false Nothing b)
    ended_so not_begun none true e = each.end_of_rib none e
    ended_so not_begun none false e = each.ends none (and-unless (is_owed x.phase) x.ending not_begun e) e

    due_so : (is_owed x.phase && not x.ending) ≡ false → (d : Due Key OutAttrs) → routes_due x.key x.out ≡ d → IsSo (says_by false d x.ending)
    due_so not_begun (Withdraws keys) is = each.withdraws keys is
    due_so not_begun (Announces o keys) is = each.announces o keys is
    due_so not_begun Nothing is = ended_so not_begun is x.ending refl

    next_so : (b : Bool) → (is_owed x.phase && not x.ending) ≡ b → IsSo (says_by b (routes_due x.key x.out) x.ending)
    next_so true e = let parts = both_so (is_owed x.phase) (not x.ending) e in each.begins parts.0 (not_so x.ending parts.1)
    next_so false e = due_so e (routes_due x.key x.out) refl

    pub so-next : IsSo (says_next x)
    so-next = next_so (is_owed x.phase && not x.ending) refl
