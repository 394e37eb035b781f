-- Laws of lines that are taken one after the other.
use Rattle.std.proofs.Common.{◌≡◌, ℕ, ◌<◌, ◌≤◌, Bool, true, false, leb, inl, inr, List, [], ◌++◌, map, Option, refl, sym, ◌∙◌, ap, subst, append_assoc, arith}
use Rattle.std.proofs.lemmas.Bool.{leb-true, leb-false}
use Rattle.std.proofs.lemmas.List.{append-nil, map-append}
use Rattle.ug_edge.specs.Told.{Rose}
use Rattle.ug_board.specs.Entry.{Entry}
use Rattle.ug_board.specs.Rules.{Rules}
use Rattle.ug_events.specs.Events.{Saying}
use Rattle.ug_events.specs.Reads.{Reads}
use Rattle.ug_speaker.specs.Speech.{Speech}
use Rattle.ug_speaker.specs.StoryLaws.{each-append}
use Rattle.ug_event_loop.specs.Turns.{IsOpenBy, StaysOpen}
use Rattle.ug_event_loop.specs.declared.grammar.Grammar.{Grammar}
use Rattle.ug_event_loop.specs.declared.stop.Stop.{Stop}
use Rattle.ug_event_loop.specs.Standing.{said_by, BuilderView, IsSameBuilder, BuilderStands, BuilderStops, TakesLines, StopsWithin}

pub same_itself : {Opening Job Said : Type 0} (b : BuilderView Opening Job Said) → IsSameBuilder b b
same_itself b = record { pass = (refl, refl, refl); names = refl; grammar = refl; coalesce = refl }

pub same_further : {Opening Job Said : Type 0} (a b c : BuilderView Opening Job Said) → IsSameBuilder a b → IsSameBuilder b c → IsSameBuilder a c
same_further a b c p q = record {
  pass = (q.pass.0 ∙ p.pass.0, q.pass.1 ∙ p.pass.1, q.pass.2 ∙ p.pass.2);
  names = q.names ∙ p.names;
  grammar = q.grammar ∙ p.grammar;
  coalesce = q.coalesce ∙ p.coalesce;
}

-- what lines say, and then more of them
said_joined : (g h : Grammar) (lines : List (Reads Saying)) (front more : List (List ℕ)) → h ≡ g
    → (lines ++ map (said_by g) front) ++ map (said_by h) more ≡ lines ++ map (said_by g) (front ++ more)
said_joined g h lines front more same =
    ap (λ (k : Grammar). (lines ++ map (said_by g) front) ++ map (said_by k) more) same
    ∙ (append_assoc lines (map (said_by g) front) (map (said_by g) more)
    ∙ ap (λ (ls : List (Reads Saying)). lines ++ ls) (sym (map-append (said_by g) front more)))

module _ {Opening State Job Said : Type 0} (rules : Rules Opening State Job Said) (speech : Speech Opening State Job Said) where
  -- work that isn't ended, and work that isn't either behind it
  pub stays_nowhere : (h : List (Entry Job Said)) → StaysOpen rules speech h h
  stays_nowhere h = record { more = []; parts = sym (append-nil h); each = tt }

  pub stays_further : (a b c : List (Entry Job Said)) → StaysOpen rules speech a b → StaysOpen rules speech b c → StaysOpen rules speech a c
  stays_further a b c one two = record {
    more = one.more ++ two.more;
    parts = two.parts ∙ ap (λ (z : List (Entry Job Said)). z ++ two.more) one.parts ∙ append_assoc a one.more two.more;
    each = each-append (IsOpenBy rules speech) one.more two.more one.each two.each;
  }

  pub takes_none : (b : BuilderView Opening Job Said) (held : Option (List ℕ)) → TakesLines rules speech b held b held []
  takes_none b held first lines before stands =
      (subst (λ (ls : List (Reads Saying)). BuilderStands rules speech b first ls before held) (sym (append-nil lines)) stands, stays_nowhere b.pass.seen)

  pub takes_more :
      (t u v : BuilderView Opening Job Said) (c d e : Option (List ℕ)) (front more : List (List ℕ)) → IsSameBuilder t u
      → TakesLines rules speech t c u d front → TakesLines rules speech u d v e more → TakesLines rules speech t c v e (front ++ more)
  takes_more t u v c d e front more same p q first lines before stands =
      let one = p first lines before stands in
      let two = q first (lines ++ map (said_by t.grammar) front) before one.0 in (
        subst (λ (ls : List (Reads Saying)). BuilderStands rules speech v first ls before e) (said_joined t.grammar u.grammar lines front more same.grammar) two.0,
        stays_further t.pass.seen u.pass.seen v.pass.seen one.1 two.1,
      )

  pub stops_later :
      (t u v : BuilderView Opening Job Said) (c d e : Option (List ℕ)) (front more : List (List ℕ)) (stop : Stop) → IsSameBuilder t u
      → TakesLines rules speech t c u d front → StopsWithin rules speech stop u d v e more → StopsWithin rules speech stop t c v e (front ++ more)
  stops_later t u v c d e front more stop same p q first lines before stands =
      let one = p first lines before stands in
      let two = q first (lines ++ map (said_by t.grammar) front) before one.0 in (
        subst (λ (ls : List (Reads Saying)). BuilderStops rules speech stop v first ls before e) (said_joined t.grammar u.grammar lines front more same.grammar) two.0,
        stays_further t.pass.seen u.pass.seen v.pass.seen one.1 two.1,
      )

-- Where a count rose later it rose.
pub rose_later : (a b c : ℕ) → a ≤ b → b ≤ c → Rose b c → Rose a c
rose_later a b c le le' (inl rose) = inl (omega arith)
rose_later a b c le le' (inr full) = by_test (leb c a) refl
  where
    by_test : (t : Bool) → leb c a ≡ t → Rose a c
    by_test true is = let back : c ≤ a = leb-true c a is in inr (omega arith)
    by_test false is = let less : a < c = leb-false c a is in inl (omega arith)
