-- Where a builder stands between lines: what it has done for those so far, and what its report says of them.
use Rattle.std.specs.Prelude.{◌≡◌, ℕ, ◌+◌, ◌%◌, max, ◌==◌, Bool, true, false, List, [], ◌++◌, length, map, Option, Some, None}
use Rattle.std.specs.List.{concat}
use Rattle.ug_types.specs.declared.mark.Mark.{Mark}
use Rattle.ug_edge.specs.Told.{AppendsPiece}
use Rattle.ug_pieces.specs.Reporting.{AppendsFront}
use Rattle.ug_board.specs.declared.steps.BoardStep.{BoardStep}
use Rattle.ug_board.specs.declared.steps.BoardStep.TheVariants.{Job as DoJob, Lane as LaneTakes}
use Rattle.ug_board.specs.Entry.{Entry}
use Rattle.ug_board.specs.Rules.{Rules}
use Rattle.ug_board.specs.History.{IsLegal}
use Rattle.ug_board.specs.Deeds.{Each, of_pass}
use Rattle.ug_turnstile.specs.Passes.{Held, IsSamePass}
use Rattle.ug_events.specs.Events.{Saying}
use Rattle.ug_events.specs.Reads.{Reads}
use Rattle.ug_events.specs.Grammar.{line_of, routes_line_of}
use Rattle.ug_world.specs.World.{World}
use Rattle.ug_world.specs.Worlds.{last_world}
use Rattle.ug_speaker.specs.Speech.{Speech}
use Rattle.ug_report.specs.Report.{AreOf64, line_texts, accepted_count, refused_count}
use Rattle.ug_speaker.specs.Story.{IsStory}
use Rattle.ug_event_loop.specs.Turns.{StaysOpen}
use Rattle.ug_event_loop.specs.declared.grammar.Grammar.{Grammar}
use Rattle.ug_event_loop.specs.declared.grammar.Grammar.TheVariants as grammars
use Rattle.ug_event_loop.specs.declared.tally.Tally.{Tally}
use Rattle.ug_event_loop.specs.declared.stop.Stop.{Stop}
use Rattle.ug_event_loop.specs.declared.stop.Stop.TheVariants as stops

-- what a line says, by the verbs that are known
abbrev pub said_by : Grammar → List ℕ → Reads Saying
said_by grammars.Every line = line_of line
said_by grammars.Routes line = routes_line_of line

abbrev pub IsLaneStep : {J : Type 0} → BoardStep J → Type 0
IsLaneStep (DoJob job) = ⊥
IsLaneStep (LaneTakes step) = Unit {0}

-- What others than the builder did are steps of lanes.
abbrev pub AreLanes : {J R : Type 0} → List (Entry J R) → Type 0
AreLanes entries = Each (λ entry. of_pass 0 entry ≡ false → IsLaneStep entry.step) entries

-- how many lines were taken, and how many of them were accepted and refused
pub record IsTally (w : World) (taken : List (Reads Saying)) (tally : Tally) : Type 0 where
  pub lines : tally.lines ≡ length taken
  pub accepted : tally.accepted ≡ accepted_count w taken
  pub refused : tally.refused ≡ refused_count w taken

-- What the report got where a run stopped: where memory ran out some of its lines, each whole, and where the report
-- failed a front of them.
abbrev pub IsReportedUntil : Stop → Option (List ℕ) → Option (List ℕ) → List (List ℕ) → Type 0
IsReportedUntil stops.NoMemory before held texts =
    (front : List (List ℕ)) × (more : List (List ℕ)) × (texts ≡ front ++ more) × AppendsPiece before held (concat front)
IsReportedUntil stops.Report before held texts = AppendsFront before held (concat texts)

module _ {Opening State Job Said : Type 0} (rules : Rules Opening State Job Said) (speech : Speech Opening State Job Said) where
  -- These lines were taken, with these marks, behind the first ones, which no report speaks of.
  pub record HasTaken (opening : Opening) (first lines : List (Reads Saying)) (marks : List (List Mark)) (seen : List (Entry Job Said)) : Type 0 where
    pub first_marks : List (List Mark)
    pub aligned : length first_marks ≡ length first
    pub story : IsStory rules speech opening [] (first ++ lines) (first_marks ++ marks) seen
    pub legal : IsLegal rules opening seen

  -- All these lines were taken, and the report says of them what it has to, with marks that count messages in 64 bits.
  pub record StandsAt (opening : Opening) (first lines : List (Reads Saying)) (names : List (List ℕ)) (seen : List (Entry Job Said)) (before held : Option (List ℕ)) (tally : Tally) : Type 0 where
    pub marks : List (List Mark)
    pub taken : HasTaken opening first lines marks seen
    pub counts : Each AreOf64 marks
    pub reported : AppendsPiece before held (concat (line_texts names 1 (last_world (speech.first opening) first) lines marks))
    pub tallied : IsTally (last_world (speech.first opening) first) lines tally

  -- Some of these lines were taken, from the front.
  pub record StopsAt (stop : Stop) (opening : Opening) (first lines : List (Reads Saying)) (names : List (List ℕ)) (seen : List (Entry Job Said)) (before held : Option (List ℕ)) : Type 0 where
    pub some : List (Reads Saying)
    pub more : List (Reads Saying)
    pub parts : lines ≡ some ++ more
    pub marks : List (List Mark)
    pub taken : HasTaken opening first some marks seen
    pub reported : IsReportedUntil stop before held (line_texts names 1 (last_world (speech.first opening) first) some marks)

  -- The same of a pass, whose root is known, as far as others did nothing but steps of lanes.
  abbrev pub Stands : Option Opening → List (Reads Saying) → List (Reads Saying) → List (List ℕ) → List (Entry Job Said) → Option (List ℕ) → Option (List ℕ) → Tally → Type 0
  Stands None first lines names seen before held tally = ⊥
  Stands (Some opening) first lines names seen before held tally = AreLanes seen → StandsAt opening first lines names seen before held tally

  abbrev pub Stops : Stop → Option Opening → List (Reads Saying) → List (Reads Saying) → List (List ℕ) → List (Entry Job Said) → Option (List ℕ) → Option (List ℕ) → Type 0
  Stops stop None first lines names seen before held = ⊥
  Stops stop (Some opening) first lines names seen before held = AreLanes seen → StopsAt stop opening first lines names seen before held

-- After so many accepted events the lanes here are pumped: after each `every` of them.
abbrev pub is_due : ℕ → ℕ → Bool
is_due accepted every = (accepted % max 1 every) == 0

-- That is the number of the world with which this root begins.
abbrev pub IsPacedBy : {Opening State Job Said : Type 0} → Speech Opening State Job Said → Option Opening → ℕ → Type 0
IsPacedBy speech None every = Unit {0}
IsPacedBy speech (Some root) every = every ≡ (speech.first root).local.coalesce

-- a builder as contracts see it: its pass, the names of the peers, the verbs it knows, after how many accepted events the
-- lanes here are pumped, and the lines it took
pub record BuilderView (Opening Job Said : Type 0) : Type 0 where
  pub pass : Held (Entry Job Said) Opening
  pub names : List (List ℕ)
  pub grammar : Grammar
  pub coalesce : ℕ
  pub tally : Tally

-- It is the same builder, with the same pass, however many lines it took.
pub record IsSameBuilder {Opening Job Said : Type 0} (old new : BuilderView Opening Job Said) : Type 0 where
  pub pass : IsSamePass old.pass new.pass
  pub names : new.names ≡ old.names
  pub grammar : new.grammar ≡ old.grammar
  pub coalesce : new.coalesce ≡ old.coalesce

-- One more event was accepted, with which the lanes here are due to be pumped.
pub record IsPumpedBetween {Opening Job Said : Type 0} (old new : BuilderView Opening Job Said) : Type 0 where
  pub accepted : new.tally.accepted ≡ old.tally.accepted + 1
  pub due : is_due new.tally.accepted old.coalesce ≡ true

module _ {Opening State Job Said : Type 0} (rules : Rules Opening State Job Said) (speech : Speech Opening State Job Said) where
  -- where a builder stands, or stops, with this in the report
  abbrev pub BuilderStands : BuilderView Opening Job Said → List (Reads Saying) → List (Reads Saying) → Option (List ℕ) → Option (List ℕ) → Type 0
  BuilderStands b first lines before held = Stands rules speech b.pass.root first lines b.names b.pass.seen before held b.tally

  abbrev pub BuilderStops : Stop → BuilderView Opening Job Said → List (Reads Saying) → List (Reads Saying) → Option (List ℕ) → Option (List ℕ) → Type 0
  BuilderStops stop b first lines before held = Stops rules speech stop b.pass.root first lines b.names b.pass.seen before held

  -- On the way from one to the other just these lines were taken, and the work wasn't ended.
  abbrev pub TakesLines : BuilderView Opening Job Said → Option (List ℕ) → BuilderView Opening Job Said → Option (List ℕ) → List (List ℕ) → Type 0
  TakesLines old held new held' more =
      (first : List (Reads Saying)) (lines : List (Reads Saying)) (before : Option (List ℕ))
      → BuilderStands old first lines before held
      → BuilderStands new first (lines ++ map (said_by old.grammar) more) before held' × StaysOpen rules speech old.pass.seen new.pass.seen

  -- Behind the first these lines came, of which some were taken when it stopped, with the work not ended.
  abbrev pub StopsWithin : Stop → BuilderView Opening Job Said → Option (List ℕ) → BuilderView Opening Job Said → Option (List ℕ) → List (List ℕ) → Type 0
  StopsWithin stop old held new held' more =
      (first : List (Reads Saying)) (lines : List (Reads Saying)) (before : Option (List ℕ))
      → BuilderStands old first lines before held
      → BuilderStops stop new first (lines ++ map (said_by old.grammar) more) before held' × StaysOpen rules speech old.pass.seen new.pass.seen
