-- What a turn changes of a subgroup of one's own: its key, and what a request asks of it.
use Rattle.std.proofs.Common.{◌≡◌, ℕ, inl, inr, Bool, true, false, refl, sym, ◌∙◌, ap}
use Rattle.std.specs.Prelude.{◌||◌, is_some, if◌then◌else◌}
use Rattle.ug_types.specs.declared.route.PeerEnds.{PeerEnds}
use Rattle.ug_outbound.specs.declared.key.GroupKey.{GroupKey}
use Rattle.ug_message.specs.NextHops.{told_to}
use Rattle.ug_world.specs.World.{World}
use Rattle.ug_group_rules.specs.declared.phase.Phase.TheVariants.{Owed}
use Rattle.ug_group_rules.specs.Packets.{wanted_rows, all_forced}
use Rattle.ug_group_rules.specs.Machine.{Subgroup, rekeyed, asked}
use Rattle.ug_group_rules.proofs.StreamsInWorlds.{IsAs}
use Rattle.ug_group_rules.proofs.Tables.{row_at, is_forced, desired-exact, wanted-sorted, forced-all, forced-exact}
use Rattle.ug_group_rules.proofs.WantedTables.{table_in}
use Rattle.ug_group_rules.proofs.MemberStreams.{IsKept, some-mapped}
use Rattle.ug_group_rules.proofs.Retabling.{desired-as}

-- A subgroup that is as good as another for the streams of its members.
pub record IsGood (ends : PeerEnds) (w : World) (x y : Subgroup) : Type 0 where
  pub kept : IsKept w y
  pub change : IsAs (table_in ends x.out.formatted) (table_in ends y.out.formatted) (is_forced x.out) (is_forced y.out) x.phase y.phase
  pub ending : y.ending ≡ x.ending
  pub fresh : y.fresh ≡ x.fresh

pub good-then : (ends : PeerEnds) (w v : World) (x y z : Subgroup) → IsGood ends w x y → IsGood ends v y z → IsGood ends v x z
good-then ends w v x y z one two = record {
  kept = two.kept;
  change = record {
    same = λ q. one.change.same q ∙ two.change.same q;
    forces = λ q forced there. two.change.forces q (one.change.forces q forced there) (ap is_some (sym (one.change.same q)) ∙ there);
    rests = λ e. one.change.rests (two.change.rests e);
    begun = λ e. one.change.begun (two.change.begun e);
  };
  ending = two.ending ∙ one.ending;
  fresh = two.fresh ∙ one.fresh;
}

pub good-itself : (ends : PeerEnds) (w : World) (x : Subgroup) (n : ℕ) → IsKept w x → IsGood ends w x (record x { stuck = n })
good-itself ends w x n kept = record {
  kept = record { exact = kept.exact; desired = kept.desired; nothing = kept.nothing; closed = kept.closed; due = kept.due; marked = kept.marked };
  change = record { same = λ q. refl; forces = λ q forced there. forced; rests = λ e. e; begun = λ e. e };
  ending = refl;
  fresh = refl;
}

pub good-rekeyed : (ends : PeerEnds) (old w : World) (key : GroupKey) (x : Subgroup) → key.enhanced_refresh ≡ x.key.enhanced_refresh → IsKept old x → IsGood ends w x (rekeyed key w x)
good-rekeyed ends old w key x same kept = record {
  kept = record {
    exact = desired-exact (wanted_rows key w) x.out (wanted-sorted key w) kept.exact;
    desired = refl;
    nothing = kept.nothing;
    closed = kept.closed;
    due = kept.due;
    marked = elim kept.marked [ inl quiet ↦ inl quiet | inr marked ↦ inr (same ∙ marked) ];
  };
  change = desired-as (wanted_rows key w) x.out ends x.phase;
  ending = refl;
  fresh = refl;
}

pub good-asked : (ends : PeerEnds) (w : World) (x : Subgroup) → IsKept w x → IsGood ends w x (asked x)
good-asked ends w x kept = by x.key.enhanced_refresh refl
  where
    owed : x.key.enhanced_refresh ≡ true → IsGood ends w x (record x { phase = Owed })
    owed e = record {
      kept = record { exact = kept.exact; desired = kept.desired; nothing = kept.nothing; closed = λ f o. absurd cc; due = kept.due; marked = inr e };
      change = record { same = λ q. refl; forces = λ q forced there. forced; rests = λ o. absurd cc; begun = λ o. absurd cc };
      ending = refl;
      fresh = refl;
    }

    at_once : IsGood ends w x (record x { out = all_forced x.out })
    at_once = record {
      kept = record { exact = forced-exact x.out kept.exact; desired = kept.desired; nothing = kept.nothing; closed = kept.closed; due = kept.due; marked = kept.marked };
      change = record {
        same = λ q. refl;
        forces = λ q forced there. forced-all x.out q ∙ ap (λ (b : Bool). b || is_some (row_at x.out.desired q)) (sym (some-mapped (told_to ends) (row_at x.out.formatted q)) ∙ there);
        rests = λ o. o;
        begun = λ o. o;
      };
      ending = refl;
      fresh = refl;
    }

    by : (b : Bool) → x.key.enhanced_refresh ≡ b → IsGood ends w x (if b then record x { phase = Owed } else record x { out = all_forced x.out })
    by true e = owed e
    by false e = at_once

abbrev HasKey : Subgroup → Subgroup → Type 0
HasKey x y = y.key ≡ x.key

pub key-asked : (x : Subgroup) → (asked x).key ≡ x.key
key-asked x = by x.key.enhanced_refresh
  where
    by : (b : Bool) → HasKey x (if b then record x { phase = Owed } else record x { out = all_forced x.out })
    by true = refl
    by false = refl
