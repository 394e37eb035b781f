-- A run of keys of one session that has room in a message.
use Rattle.std.proofs.Common.{◌≡◌, ℕ, ◌<◌, ◌≤◌, true, Bool, List, length, slice_get, Some, sym, subst, arith}
use Rattle.std.specs.List.{AllByRecursion}
use Rattle.ug_types.specs.declared.family.Family.{Family}
use Rattle.ug_types.specs.declared.key.Key.{Key}
use Rattle.ug_types.specs.Keys.{weight_of}
use Rattle.ug_message.specs.Spellable.{are_of_family}
use Rattle.ug_update.specs.Updates.{AreAlike, weight_of_all}
use Rattle.ug_adjout.specs.Formatting.{fitting}
use Rattle.ug_pack.specs.Ready.{IsKeyOf}
use Rattle.ug_pack.proofs.Fits.{some_fit, sum_fits, all_fit, of_family, are_alike}

pub record IsRun (family : Family) (space : ℕ) (run : List Key) : Type 0 where
  pub some : 0 < length run
  pub alike : AreAlike run
  pub of_family : are_of_family family run ≡ true
  pub fits : weight_of_all run ≤ space

pub run : (family : Family) (add_path : Bool) (keys run : List Key) (space : ℕ) (first : Key) → run ≡ fitting weight_of space keys → slice_get keys 0 ≡ Some first → weight_of first ≤ 21 → 21 ≤ space
    → AllByRecursion (IsKeyOf family add_path) keys → IsRun family space run
run family add_path keys these space first is at light least all =
    let own = all_fit weight_of (IsKeyOf family add_path) space keys all in
    subst (IsRun family space) (sym is)
    (record {
      some = some_fit weight_of space keys first at (omega (arith, light, least));
      alike = are_alike family add_path (fitting weight_of space keys) own;
      of_family = of_family family add_path (fitting weight_of space keys) own;
      fits = sum_fits weight_of space keys;
    })
