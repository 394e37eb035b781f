-- What changes of one row or of one member leave of what each machine keeps.
use Rattle.std.proofs.Common.{◌≡◌, ℕ, zero, suc, ◌+◌, ◌<◌, ◌≤◌, ◌⊎◌, inl, inr, List, [], ◌∷◌, length, slice_get, Option, Some, None, refl, sym, ap, subst, ◌∙◌, arith}
use Rattle.std.specs.Option.{option_map}
use Rattle.std.proofs.lemmas.Bool.{cases_eq}
use Rattle.ug_world.specs.declared.peer_state.PeerState.{PeerState}
use Rattle.ug_world.specs.World.{World}
use Rattle.ug_speaker.specs.Places.{change_at}
use Rattle.ug_speaker.specs.Counts.{sessions_at}
use Rattle.ug_speaker.proofs.Places.{changed-here, changed-there}
use Rattle.ug_group_rules.specs.Packets.{wanted_rows}
use Rattle.ug_group_rules.specs.Machine as machine
use Rattle.ug_group_rules.specs.Rules.{rest_due}
use Rattle.ug_groups.specs.Rows.{Row, Rows, row_at, any_at, with_row}
use Rattle.ug_groups.specs.declared.member.Member.{Member}
use Rattle.ug_queue.specs.Queues.{rest_of}
use Rattle.ug_groups.specs.Members.{rest_in, member_of, sub_in, sub_at, is_queued, stands}
use Rattle.ug_groups.specs.Changes.{with_sub}
use Rattle.ug_groups.specs.Kept.{AreInhabited, IsTabled, AreTabled, IsOwn, AreOwn, HasRoom, HaveRoom, AreCounted}
use Rattle.ug_groups.proofs.ListFacts.{some-same}
use Rattle.ug_groups.proofs.RowsAt.{row-here, row-there, changed-cases}

-- ---- one row is another

-- of the same key, with the same to be told, and as long a queue
pub record IsAlike (r r' : Row) : Type 0 where
  pub key : r'.sub.key ≡ r.sub.key
  pub desired : r'.sub.out.desired ≡ r.sub.out.desired
  pub limit : r'.queue.limit ≡ r.queue.limit

module _ (g : ℕ) (change : Row → Row) (rows : Rows) where
  pub stands-with : (q h : ℕ) → ((r : Row) → row_at g rows ≡ Some r → is_queued q (change r) ≡ is_queued q r) → stands q h (with_row g change rows) ≡ stands q h rows
  stands-with q h same =
      elim (cases_eq h g) [
        | inl here ↦ subst (λ (k : ℕ). stands q k (with_row g change rows) ≡ stands q k rows) (sym here) (ap (any_at (is_queued q)) (row-here g change rows) ∙ by (row_at g rows) refl)
        | inr apart ↦ ap (any_at (is_queued q)) (row-there g h change rows apart)
      ]
    where
      by : (o : Option Row) → row_at g rows ≡ o → any_at (is_queued q) (option_map change o) ≡ any_at (is_queued q) o
      by None is = refl
      by (Some r) is = same r is

  pub inhabited-with : ((r : Row) → row_at g rows ≡ Some r → 0 < length (change r).queue.places) → AreInhabited rows → AreInhabited (with_row g change rows)
  inhabited-with some all h r is =
      elim (changed-cases g h change rows r is) [
        | inl it ↦ subst (λ (x : Row). 0 < length x.queue.places) (sym it.changed) (some it.old it.there_is)
        | inr it ↦ all h r it.there_is
      ]

  pub tabled-with : (w : World) → ((r : Row) → row_at g rows ≡ Some r → IsAlike r (change r)) → AreTabled w rows → AreTabled w (with_row g change rows)
  tabled-with w alike all h r is =
      elim (changed-cases g h change rows r is) [
        | inl it ↦
            let was = all g it.old it.there_is in let now = alike it.old it.there_is in
            subst (IsTabled w) (sym it.changed) (record { desires = now.desired ∙ was.desires ∙ ap (λ k. wanted_rows k w) (sym now.key); limit = now.limit ∙ was.limit })
        | inr it ↦ all h r it.there_is
      ]

  pub own-with : (w : World) (members : List Member) → ((r : Row) → row_at g rows ≡ Some r → IsAlike r (change r)) → AreOwn w rows members → AreOwn w (with_row g change rows) members
  own-with w members alike all p h s r peer sits is =
      elim (changed-cases g h change rows r is) [
        | inl it ↦
            let was = all p g s it.old peer (subst (λ (k : ℕ). sub_at p members ≡ Some k) it.number sits) it.there_is in
            subst (IsOwn w s) (sym it.changed) (record { up = was.up; key = (alike it.old it.there_is).key ∙ was.key })
        | inr it ↦ all p h s r peer sits it.there_is
      ]

-- ---- one member is another

pub member-cases : (p q : ℕ) (members : List Member) (m m' n : Member) → slice_get members p ≡ Some m → slice_get (change_at (λ (x : Member). m') p members) q ≡ Some n → ((q ≡ p) × (n ≡ m')) ⊎ ((q ≡ p → ⊥) × (slice_get members q ≡ Some n))
member-cases p q members m m' n is e =
    elim (cases_eq q p) [
      | inl same ↦
          inl (same, sym (some-same m' n (sym (changed-here (λ (x : Member). m') p members ∙ ap (option_map (λ (x : Member). m')) is) ∙ subst (λ (k : ℕ). slice_get (change_at (λ (x : Member). m') p members) k ≡ Some n) same e)))
      | inr apart ↦ inr (apart, sym (changed-there (λ (x : Member). m') p q members apart) ∙ e)
    ]

module _ (p : ℕ) (members : List Member) (m m' : Member) (is : slice_get members p ≡ Some m) where
  pub room-one : (w : World) → HasRoom (sessions_at p w) m' → HaveRoom w members → HaveRoom w (change_at (λ (x : Member). m') p members)
  room-one w room all q n at =
      elim (member-cases p q members m m' n is at) [
        | inl it ↦ subst (λ (x : Member). HasRoom (sessions_at q w) x) (sym it.1) (subst (λ (k : ℕ). HasRoom (sessions_at k w) m') (sym it.0) room)
        | inr it ↦ all q n it.1
      ]

  pub counted-one : (made : ℕ) (rows new : Rows) → m'.handed + rest_due (member_of new p m').seat ≤ made
      → ((q : ℕ) (n : Member) → (q ≡ p → ⊥) → slice_get members q ≡ Some n → member_of new q n ≡ member_of rows q n)
      → AreCounted made rows members → AreCounted made new (change_at (λ (x : Member). m') p members)
  counted-one made rows new here others all q n at =
      elim (member-cases p q members m m' n is at) [
        | inl it ↦ subst (λ (x : Member). x.handed + rest_due (member_of new q x).seat ≤ made) (sym it.1) (subst (λ (k : ℕ). m'.handed + rest_due (member_of new k m').seat ≤ made) (sym it.0) here)
        | inr it ↦ subst (λ (x : machine.Member). n.handed + rest_due x.seat ≤ made) (sym (others q n it.0 it.1)) (all q n it.1)
      ]

  -- where the change leaves its subgroup
  pub own-one : (w : World) (rows : Rows) → ((q : ℕ) → sub_at q (change_at (λ (x : Member). m') p members) ≡ sub_at q members) → AreOwn w rows members → AreOwn w rows (change_at (λ (x : Member). m') p members)
  own-one w rows same all q g s r peer sits there = all q g s r peer (sym (same q) ∙ sits) there

-- ---- rests

module _ (g : ℕ) (change : Row → Row) (rows : Rows) where
  -- where the change leaves the rest of a peer
  pub rest-with : (q h : ℕ) → ((r : Row) → row_at g rows ≡ Some r → rest_of (change r).queue q ≡ rest_of r.queue q) → rest_in q (row_at h (with_row g change rows)) ≡ rest_in q (row_at h rows)
  rest-with q h same =
      elim (cases_eq h g) [
        | inl here ↦ subst (λ (k : ℕ). rest_in q (row_at k (with_row g change rows)) ≡ rest_in q (row_at k rows)) (sym here) (ap (rest_in q) (row-here g change rows) ∙ by (row_at g rows) refl)
        | inr other ↦ ap (rest_in q) (row-there g h change rows other)
      ]
    where
      by : (o : Option Row) → row_at g rows ≡ o → rest_in q (option_map change o) ≡ rest_in q o
      by None is = refl
      by (Some r) is = same r is

-- who sits in a subgroup is of it, but for one peer
abbrev pub AreOwnBut : ℕ → World → Rows → List Member → Type 0
AreOwnBut p w rows members = (q g : ℕ) (s : PeerState) (r : Row) → (q ≡ p → ⊥) → slice_get w.peers q ≡ Some s → sub_at q members ≡ Some g → row_at g rows ≡ Some r → IsOwn w s r

pub own-but : (p : ℕ) (w : World) (rows : Rows) (members : List Member) → AreOwn w rows members → AreOwnBut p w rows members
own-but p w rows members all q g s r apart peer sits is = all q g s r peer sits is

-- ---- a peer sits elsewhere

-- whatever the member was
pub change-as : (p : ℕ) (members : List Member) (m : Member) (change : Member → Member) → slice_get members p ≡ Some m → change_at change p members ≡ change_at (λ (x : Member). change m) p members
change-as p [] m change is = refl
change-as zero (x ∷ members) m change is = let same : x ≡ m = cc in ap (λ (y : Member). change y ∷ members) same
change-as (suc p) (x ∷ members) m change is = ap (λ (l : List Member). x ∷ l) (change-as p members m change is)

module _ (p : ℕ) (o : Option ℕ) (members : List Member) where
  pub sub-moved : (m : Member) → slice_get members p ≡ Some m → sub_at p (change_at (with_sub o) p members) ≡ o
  sub-moved m is = ap sub_in (changed-here (with_sub o) p members ∙ ap (option_map (with_sub o)) is)

  pub sub-beside : (q : ℕ) → (q ≡ p → ⊥) → sub_at q (change_at (with_sub o) p members) ≡ sub_at q members
  sub-beside q apart = ap sub_in (changed-there (with_sub o) p q members apart)

  pub member-moved : (q : ℕ) (n : Member) → slice_get (change_at (with_sub o) p members) q ≡ Some n → ((q ≡ p) × (m : Member) × (slice_get members q ≡ Some m) × (n ≡ with_sub o m)) ⊎ ((q ≡ p → ⊥) × (slice_get members q ≡ Some n))
  member-moved q n e =
      elim (cases_eq q p) [
        | inl same ↦ inl (moved same (slice_get members q) refl)
        | inr apart ↦ inr (apart, sym (changed-there (with_sub o) p q members apart) ∙ e)
      ]
    where
      moved : q ≡ p → (x : Option Member) → slice_get members q ≡ x → (q ≡ p) × (m : Member) × (slice_get members q ≡ Some m) × (n ≡ with_sub o m)
      moved same None is =
          absurd (let none = sym (subst (λ (k : ℕ). slice_get (change_at (with_sub o) k members) q ≡ Some n) (sym same) e) ∙ changed-here (with_sub o) q members ∙ ap (option_map (with_sub o)) is in cc)
      moved same (Some m) is =
          (same, m, is, sym (some-same (with_sub o m) n (sym (changed-here (with_sub o) q members ∙ ap (option_map (with_sub o)) is) ∙ subst (λ (k : ℕ). slice_get (change_at (with_sub o) k members) q ≡ Some n) (sym same) e)))

  pub room-moved : (w : World) → HaveRoom w members → HaveRoom w (change_at (with_sub o) p members)
  room-moved w all q n at =
      elim (member-moved q n at) [
        | inl it ↦ subst (λ (x : Member). HasRoom (sessions_at q w) x) (sym it.3) (let was = all q it.1 it.2 in record { spare = was.spare; few = was.few })
        | inr it ↦ all q n it.1
      ]

  -- where others have the rests that they had, and it has no more than it had
  pub counted-moved : (made : ℕ) (rows new : Rows) → ((m : Member) → slice_get members p ≡ Some m → rest_due (member_of new p (with_sub o m)).seat ≤ rest_due (member_of rows p m).seat)
      → ((q : ℕ) (n : Member) → (q ≡ p → ⊥) → slice_get members q ≡ Some n → member_of new q n ≡ member_of rows q n)
      → AreCounted made rows members → AreCounted made new (change_at (with_sub o) p members)
  counted-moved made rows new least others all q n at =
      elim (member-moved q n at) [
        | inl it ↦
            let here = least it.1 (subst (λ (k : ℕ). slice_get members k ≡ Some it.1) it.0 it.2) in
            let was = subst (λ (k : ℕ). it.1.handed + rest_due (member_of rows k it.1).seat ≤ made) it.0 (all q it.1 it.2) in
            subst (λ (x : Member). x.handed + rest_due (member_of new q x).seat ≤ made) (sym it.3)
            (subst (λ (k : ℕ). it.1.handed + rest_due (member_of new k (with_sub o it.1)).seat ≤ made) (sym it.0) (omega (arith, here, was)))
        | inr it ↦ subst (λ (x : machine.Member). n.handed + rest_due x.seat ≤ made) (sym (others q n it.0 it.1)) (all q n it.1)
      ]
