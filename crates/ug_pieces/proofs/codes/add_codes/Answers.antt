use Rattle.std.proofs.Common.{◌++◌, ◌∷◌, [], List, ℕ, length, take, sym, ◌∙◌, ap, arith, length-append}
use Rattle.std.proofs.lemmas.List.{take-append-le, append-nil, take_all}
use Rattle.ug_pieces.specs.Codes.{codes_text}
use Rattle.ug_pieces.proofs.Coding.{codes_more, codes_within}
use Rattle.ug_pieces.proofs.codes.add_codes.Goals as goal

pub loop-at-init : goal.loop-at-init
loop-at-init c =
    let before = c.args.codes.now.items in
    let same = c.reserve.ensures.items in
    let size = ap (λ (cs : List ℕ). length cs) same in
    record {
      within = omega arith;
      coded = ap codes_text same ∙ sym (append-nil (codes_text before));
      front = ap (λ (cs : List ℕ). take (length before) cs) same ∙ take_all (length before) before (omega arith);
      longer = omega (arith, size);
      room = omega (arith, c.in_ok-reserve.ensures.ok);
    }

pub loop-at-preserved : goal.loop-at-preserved
loop-at-preserved c =
    let more = c.push_reserved.ensures.items in
    let longer = c.loop-at.invariant.longer in
    let size = ap (λ (cs : List ℕ). length cs) more ∙ length-append c.loop-at.codes.items (c.in-Some.code ∷ []) in
    record {
      within = codes_within c.args.text.now c.split_at.result.1.now c.loop-at.at c.in-Some.code c.size_of-at.result c.loop-at.invariant.within c.split_at.ensures.back c.in-Some.ensures c.size_of-at.ensures.value;
      coded =
          ap codes_text more
          ∙ codes_more c.loop-at.codes.items c.args.text.now c.split_at.result.1.now (codes_text c.args.codes.now.items) c.loop-at.at c.in-Some.code c.size_of-at.result c.loop-at.invariant.coded c.split_at.ensures.back c.in-Some.ensures
          c.size_of-at.ensures.value;
      front = ap (λ (cs : List ℕ). take (length c.args.codes.now.items) cs) more ∙ (take-append-le (length c.args.codes.now.items) c.loop-at.codes.items (c.in-Some.code ∷ []) longer ∙ c.loop-at.invariant.front);
      longer = omega (arith, longer, size);
      room = omega (arith, c.push_reserved.ensures.len, c.push_reserved.ensures.capacity, c.loop-at.invariant.room, c.size_of-at.ensures.some, c.loop-at-test.true);
    }

pub returns-clause-added : goal.returns-clause-added
returns-clause-added c = λ whole. c.loop-at.invariant.coded ∙ ap (λ (xs : List ℕ). codes_text c.args.codes.now.items ++ xs) (take_all c.loop-at.at c.args.text.now c.loop-at-test.false)
