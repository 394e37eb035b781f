-- The changes of what a peer should have, key by key.
use Rattle.std.proofs.Common.{◌≡◌, ℕ, zero, suc, ◌<◌, ◌≤◌, ◌⊎◌, inl, inr, Bool, true, false, List, [], ◌∷◌, ◌++◌, length, map, get_or, slice_get, Option, Some, None, refl, sym, ◌∙◌, ap, subst, arith}
use Rattle.std.specs.Prelude.{if◌then◌else◌, unwrap_or}
use Rattle.std.specs.Option.{option_map}
use Rattle.std.proofs.lemmas.Option.{slice_get-map}
use Rattle.std.specs.Map.{keys_of}
use Rattle.ug_types.specs.declared.key.Key.{Key}
use Rattle.ug_types.specs.declared.route.PeerEnds.{PeerEnds}
use Rattle.ug_types.specs.Keys.{same_key}
use Rattle.ug_hearing.specs.declared.change.Change.{Change}
use Rattle.ug_hearing.specs.Pasts.{Value}
use Rattle.ug_hearing.specs.Keyed.{value_for, pairs_of, items_or_none}
use Rattle.ug_hearing.specs.Courses.{changes_of}
use Rattle.ug_audit_rules.specs.declared.since.Since.{Since}
use Rattle.ug_audit_rules.specs.declared.group.Group.{Group}
use Rattle.ug_audit_rules.specs.Held.{held}
use Rattle.ug_audit_rules.specs.GroupLogs.{Outs, Entries, changes_in}
use Rattle.ug_audit_rules.specs.Merges.{told_if, IsTold}
use Rattle.ug_audit_rules.specs.Seats.{outs_in, outs_at, log_at}
use Rattle.ug_audit_rules.specs.Histories.{entries_of}
use Rattle.ug_audit_rules.proofs.GroupTables.{which-world, same-one}

-- where nothing goes out nothing is told
pub none-told : (ends : PeerEnds) (ups : List (Since Bool)) → IsTold ends ups [] []
none-told ends ups past rising_ups rising_outs merged = (
  merged.0,
  λ n low less. merged.1 n less ∙ ap (λ (v : Value). Some v) (never (held n false ups)),
)
  where
    never : (up : Bool) → told_if ends up None ≡ None
    never true = refl
    never false = refl

-- ---- one key after another

-- Each of these changes tells what went out under the key at its place.
abbrev pub AreTold : PeerEnds → List (Since Bool) → Entries → List (List Change) → Type 0
AreTold ends ups outs told =
    (i : ℕ) (e : Key × Outs) (changes : List Change) → slice_get outs i ≡ Some e → slice_get told i ≡ Some changes → IsTold ends ups e.1 changes

pub told-on : (ends : PeerEnds) (ups : List (Since Bool)) (outs : Entries) (told : List (List Change)) (e : Key × Outs) (changes : List Change) → AreTold ends ups outs told → slice_get outs (length told) ≡ Some e
    → IsTold ends ups e.1 changes → AreTold ends ups outs (told ++ changes ∷ [])
told-on ends ups outs told e changes are at is i x c there got = by (which-world told changes i c got)
  where
    by : ((i < length told) × (slice_get told i ≡ Some c)) ⊎ ((i ≡ length told) × (c ≡ changes)) → IsTold ends ups x.1 c
    by (inl early) = are i x c there early.1
    by (inr last) =
        let same : x ≡ e = same-one x e (sym there ∙ (ap (λ (k : ℕ). slice_get outs k) last.0 ∙ at)) in
        subst (λ (y : Key × Outs). IsTold ends ups y.1 c) (sym same) (subst (λ (d : List Change). IsTold ends ups e.1 d) (sym last.1) is)

-- So they tell it key by key.
pub told-all : (ends : PeerEnds) (ups : List (Since Bool)) (outs : Entries) (told : List (List Change)) → length told ≡ length outs → AreTold ends ups outs told → (q : Key) → IsTold ends ups (changes_in outs q) (changes_of (pairs_of (keys_of outs) told) q)
told-all ends ups [] told many are q = none-told ends ups
told-all ends ups (e ∷ outs) [] many are q = absurd (omega (arith, many))
told-all ends ups (e ∷ outs) (c ∷ told) many are q = by (same_key q e.0) (are 0 e c refl refl) (told-all ends ups outs told (omega (arith, many)) (λ i x d there got. are (suc i) x d there got) q)
  where
    by : (b : Bool) → IsTold ends ups e.1 c → IsTold ends ups (changes_in outs q) (changes_of (pairs_of (keys_of outs) told) q)
        → IsTold ends ups (items_or_none (if b then Some e.1 else value_for outs q)) (items_or_none (if b then Some c else value_for (pairs_of (keys_of outs) told) q))
    by true first rest = first
    by false first rest = rest

-- ---- the log of a group

pub nothing-told : (ends : PeerEnds) (ups : List (Since Bool)) (outs : Outs) (entries : List (Key × List Change)) (q : Key) → outs ≡ [] → entries ≡ [] → IsTold ends ups outs (changes_of entries q)
nothing-told ends ups outs entries q no_outs none =
    subst (λ (xs : Outs). IsTold ends ups xs (changes_of entries q)) (sym no_outs) (subst (λ (es : List (Key × List Change)). IsTold ends ups [] (changes_of es q)) (sym none) (none-told ends ups))

pub past-all : {A : Type 0} (xs : List A) (i : ℕ) → length xs ≤ i → slice_get xs i ≡ None
past-all [] i far = refl
past-all (x ∷ xs) zero far = absurd (omega (arith, far))
past-all (x ∷ xs) (suc i) far = past-all xs i (omega (arith, far))

pub item-at : {A : Type 0} (xs : List A) (i : ℕ) (d : A) → i < length xs → slice_get xs i ≡ Some (get_or xs i d)
item-at [] i d less = absurd (omega (arith, less))
item-at (x ∷ xs) zero d less = refl
item-at (x ∷ xs) (suc i) d less = item-at xs i d (omega (arith, less))

-- the log at a place is that of the group there
pub log-there : (groups : List Group) (place : Option ℕ) (q : Key) → changes_in (log_at (map entries_of groups) place) q ≡ outs_at groups place q
log-there groups None q = refl
log-there groups (Some place) q = ap (λ (o : Option Entries). changes_in (unwrap_or o []) q) (slice_get-map entries_of groups place) ∙ by (slice_get groups place)
  where
    by : (o : Option Group) → changes_in (unwrap_or (option_map entries_of o) []) q ≡ outs_in q o
    by None = refl
    by (Some group) = refl
