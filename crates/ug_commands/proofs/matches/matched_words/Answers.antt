use Rattle.std.proofs.Common.{◌≡◌, ◌∙◌, List, ℕ, rules, ap, subst, map, codes}
use Rattle.std.specs.Option.{option_map}
use Rattle.std.specs.String.{string_bytes}
use Rattle.clap.specs.Words.{app_of, found_of, is_simple, matches_of, rows_of}
use Rattle.clap.specs.Takes.{takes}
use Rattle.clap.specs.Walk.{Row}
use Rattle.clap.proofs.WalkLemmas.{first_value-rows, one_text-rows}
use Rattle.ug_commands.specs.Grammar.{grammar, is_one}
use Rattle.ug_commands.specs.Views.{so_far_seen}
use Rattle.ug_commands.proofs.Agrees.{IsReadOf, agrees}
use Rattle.ug_commands.proofs.matches.matched_words.Goals as goal

pub returns-in-Ok : goal.returns-in-Ok
returns-in-Ok c verb some =
    let words : List (List ℕ) = map string_bytes c.args.words.now in
    let found = found_of c.in-Ok.matches in
    let told : app_of c.in_ok-grammar.grammar ≡ grammar = search rules in
    let rows : rows_of found ≡ matches_of grammar words = ((c.in-Ok.ensures.matches (ap is_simple told)).0 ∙ ap (λ a. matches_of a words) told) in
    let said = c.words_of.ensures in
    (agrees verb words some).reads (so_far_seen c.words_of.result) (subst (λ (rs : List Row). IsReadOf rs (so_far_seen c.words_of.result)) rows (record {
      open_still = said.open;
      whole = said.whole;
      add_path = λ b e. said.add_path b (one_text-rows found (codes "add-path") ∙ e);
      extended = λ b e. said.extended b (one_text-rows found (codes "extended") ∙ e);
      ipv6 = λ b e. said.ipv6 b (one_text-rows found (codes "ipv6") ∙ e);
      workers = said.workers ∙ ap (option_map is_one) (first_value-rows found (codes "workers"));
      first = said.first ∙ first_value-rows found (codes "first");
      second = said.second ∙ first_value-rows found (codes "second");
      third = said.third ∙ first_value-rows found (codes "third");
      fourth = said.fourth ∙ first_value-rows found (codes "fourth");
    }))

pub returns : goal.returns
returns c verb some =
    let words : List (List ℕ) = map string_bytes c.args.words.now in
    let told : app_of c.in_ok-grammar.grammar ≡ grammar = search rules in
    absurd (c.in_default.not-OutOfMemory (c.kind.ensures ∙ c.in-Err.ensures.passes (ap (λ a. takes a words) told ∙ (agrees verb words some).takes_them)))
