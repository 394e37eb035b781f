-- How a watch goes on.
use Rattle.std.specs.Prelude.{◌≡◌, ℕ, true, false, ◌||◌, List, []}
use Rattle.ug_types.specs.declared.key.Key.{Key}
use Rattle.ug_message.specs.Tables.{among}
use Rattle.ug_hearing.specs.declared.watch.Watch.{Watch}

-- what is known of versions is as it was
pub record KeepsDates (old new : Watch) : Type 0 where
  pub version : new.version ≡ old.version
  pub is_dated : new.is_dated ≡ old.is_dated
  pub dates : new.dates ≡ old.dates
  pub passed : new.passed ≡ old.passed

-- nothing is known of keys
pub record Loses (old new : Watch) : Type 0 where
  pub kept : KeepsDates old new
  pub lost : new.is_lost ≡ true

-- Where it isn't lost these keys are remembered beside those before.
pub record Names (old new : Watch) (keys : List Key) : Type 0 where
  pub kept : KeepsDates old new
  pub known : new.is_lost ≡ false → old.is_lost ≡ false
  pub named : new.is_lost ≡ false → (q : Key) → among new.named.items q ≡ (among old.named.items q || among keys q)

-- No key was named since this version.
pub record Moves (old new : Watch) (version passed : ℕ) : Type 0 where
  pub version_is : new.version ≡ version
  pub named : new.named.items ≡ []
  pub passed_is : new.passed ≡ passed
  pub is_dated : new.is_dated ≡ old.is_dated
  pub dates : new.dates ≡ old.dates
