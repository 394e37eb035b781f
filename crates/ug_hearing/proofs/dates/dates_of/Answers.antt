use Rattle.std.proofs.Common.{◌≡◌, ◌+◌, List, slice_get, ◌∙◌, refl, ap, subst, rules, arith}
use Rattle.std.specs.Map.{keys_of}
use Rattle.std.proofs.lemmas.List.Sorted.{IsNonDecreasingBy-from_sort_by_key}
use Rattle.ug_hearing.specs.Keyed.{IsPlaceOf}
use Rattle.ug_hearing.specs.declared.dated.Dated.{Dated}
use Rattle.ug_hearing.specs.Watched.{dated_at}
use Rattle.ug_hearing.proofs.Dating.{all-in, in-sorted}
use Rattle.ug_hearing.proofs.dates.dates_of.Goals as goal

pub returns : goal.returns
returns c = record {
  listed = λ q i ch is.
      let there = all-in 0 c.args.course.now.changes q i ch is in
      let d : Dated = dated_at (0 + there.1) ch in
      let sorted = in-sorted c.in_ok-dates.dates.items _ d there.0 c.in_ok-sort_by_key.ensures.permutation (ap (λ (ds : List Dated). slice_get ds there.0) c.in_ok-dates.ensures ∙ there.2) in
      let place : there.1 ≡ 0 + there.1 = omega arith in (sorted.0, d, sorted.1, record { version = refl; place = subst (λ p. IsPlaceOf q (keys_of c.args.course.now.changes) p) place there.3 });
  rise = IsNonDecreasingBy-from_sort_by_key (λ (d : Dated). d.version) _ c.in_ok-sort_by_key.ensures.sorted (λ a r q k. search rules);
}
