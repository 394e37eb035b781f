-- Which calls of the outside are listed to fail, and how calls and faults are counted.
use Rattle.std.specs.Prelude.{ℕ, ◌+◌, ◌==◌, ◌&&◌, min, Bool, true, false, List}
use Rattle.std.specs.List.{list_any}
use Rattle.ug_edge.specs.declared.lists.CallKind.{CallKind}
use Rattle.ug_edge.specs.declared.lists.CallKind.TheVariants.{Pick, Read, Wire, Write}
use Rattle.ug_edge.specs.declared.lists.FailAt.{FailAt}

-- one more, up to the last value that a count can have
abbrev pub raised : ℕ → ℕ
raised count = min (count + 1) 18446744073709551615

abbrev pub same_kind : CallKind → CallKind → Bool
same_kind Pick Pick = true
same_kind Read Read = true
same_kind Wire Wire = true
same_kind Write Write = true
same_kind _ _ = false

-- The call of that kind with that number, counted from 1, is listed.
abbrev pub lists : CallKind → ℕ → List FailAt → Bool
lists kind number fails = list_any (λ fail. same_kind fail.call kind && (fail.number == number)) fails
