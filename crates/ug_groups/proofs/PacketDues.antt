-- A packet raises what is due by one for each member of its subgroup's queue.
use Rattle.std.proofs.Common.{◌≡◌, ℕ, ◌+◌, ◌≤◌, suc, Bool, true, false, cond, List, [], ◌∷◌, length, slice_get, Option, Some, None, is_some, refl, sym, ap, subst, ◌∙◌, arith}
use Rattle.std.specs.Prelude.{nat_le, count_by, IsSome}
use Rattle.std.specs.Map.{lookup}
use Rattle.std.specs.Option.{option_map}
use Rattle.std.proofs.lemmas.Bool.Decides.{nat_tests}
use Rattle.ug_world.specs.World.{World}
use Rattle.ug_queue.specs.Queues.{is_member}
use Rattle.ug_queue.proofs.Members.{is_one}
use Rattle.ug_group_rules.specs.Machine as machine
use Rattle.ug_group_rules.specs.Machine.{System, Subgroup, sits, says_next, subgroup_at, format_of}
use Rattle.ug_group_rules.specs.Rules.{group_rules}
use Rattle.ug_group_rules.proofs.Company.{count-cons, one_if}
use Rattle.ug_group_rules.proofs.Dues.{due-given}
use Rattle.ug_groups.specs.Rows.{Row, Rows, row_at, any_at}
use Rattle.ug_groups.specs.declared.member.Member.{Member}
use Rattle.ug_groups.specs.Members.{member_of, members_from, system, is_queued}
use Rattle.ug_groups.specs.Kept.{IsKept, AreSeated}
use Rattle.ug_groups.proofs.MemberViews.{member-get}
use Rattle.ug_groups.proofs.Left.{sits-is}

-- how many entries have this key or a higher one
abbrev above : ℕ → List (ℕ × ℕ) → ℕ
above q [] = 0
above q (e ∷ es) = one_if (nat_le q e.0) + above q es

one_at_most : (b : Bool) → one_if b ≤ 1
one_at_most true = omega arith
one_at_most false = omega arith

within : (q : ℕ) (es : List (ℕ × ℕ)) → above q es ≤ length es
within q [] = omega arith
within q (e ∷ es) = let one = one_at_most (nat_le q e.0) in let rest = within q es in omega (arith, one, rest)

one_lower : (q k : ℕ) → one_if (nat_le (suc q) k) ≤ one_if (nat_le q k)
one_lower q k = by (nat_le (suc q) k) refl
  where
    by : (b : Bool) → nat_le (suc q) k ≡ b → one_if b ≤ one_if (nat_le q k)
    by true e = let so : nat_le q k ≡ true = grind (arith, nat_tests) in let one : one_if (nat_le q k) ≡ 1 = ap one_if so in omega (arith, one)
    by false e = omega arith

lower : (q : ℕ) (es : List (ℕ × ℕ)) → above (suc q) es ≤ above q es
lower q [] = omega arith
lower q (e ∷ es) = let one = one_lower q e.0 in let rest = lower q es in omega (arith, one, rest)

-- a key that is there counts for itself alone
strict : (q : ℕ) (es : List (ℕ × ℕ)) → is_some (lookup (is_member q) es) ≡ true → above (suc q) es + 1 ≤ above q es
strict q [] is = absurd cc
strict q (e ∷ es) is = by (is_member q e.0) refl is (λ some. strict q es some)
  where
    by : (b : Bool) → is_member q e.0 ≡ b → is_some (cond b (Some e.1) (lookup (is_member q) es)) ≡ true
        → (is_some (lookup (is_member q) es) ≡ true → above (suc q) es + 1 ≤ above q es) → above (suc q) (e ∷ es) + 1 ≤ above q (e ∷ es)
    by true here some rest =
        let same : q ≡ e.0 = is_one q e.0 here in
        let at : nat_le q e.0 ≡ true = grind (arith, nat_tests) in
        let past : nat_le (suc q) e.0 ≡ false = grind (arith, nat_tests) in
        let one : one_if (nat_le q e.0) ≡ 1 = ap one_if at in
        let none : one_if (nat_le (suc q) e.0) ≡ 0 = ap one_if past in
        let beyond = lower q es in omega (arith, one, none, beyond)
    by false here some rest = let one = one_lower q e.0 in let beyond = rest some in omega (arith, one, beyond)

-- those that pass stand in the row of entries, from this place on
counted : (test : machine.Member → Bool) (ms : List machine.Member) (q : ℕ) (es : List (ℕ × ℕ))
    → ((k : ℕ) (m : machine.Member) → slice_get ms k ≡ Some m → test m ≡ true → is_some (lookup (is_member (q + k)) es) ≡ true) → count_by test ms ≤ above q es
counted test [] q es are = let none : count_by test [] ≡ 0 = refl in omega (arith, none)
counted test (m ∷ ms) q es are =
    by (test m) refl (counted test ms (suc q) es (λ k x at passes. let e : q + suc k ≡ suc q + k = omega arith in subst (λ (n : ℕ). is_some (lookup (is_member n) es) ≡ true) e (are (suc k) x at passes)))
  where
    by : (b : Bool) → test m ≡ b → count_by test ms ≤ above (suc q) es → count_by test (m ∷ ms) ≤ above q es
    by true e rest =
        let first = count-cons test m ms in
        let here : one_if (test m) ≡ 1 = ap one_if e in
        let at : q + 0 ≡ q = omega arith in
        let there_is = strict q es (subst (λ (n : ℕ). is_some (lookup (is_member n) es) ≡ true) at (are 0 m refl e)) in
        omega (arith, first, here, there_is, rest)
    by false e rest =
        let first = count-cons test m ms in
        let here : one_if (test m) ≡ 0 = ap one_if e in
        let past = lower q es in
        omega (arith, first, here, past, rest)

module _ (rows : Rows) (members : List Member) (g : ℕ) (r : Row) (seats : AreSeated rows members) (there_is : row_at g rows ≡ Some r) where
  queued : (k : ℕ) (m : machine.Member) → slice_get (members_from rows 0 members) k ≡ Some m → sits g m ≡ true → is_queued k r ≡ true
  queued k m at e = by (slice_get members k) refl (sym (member-get rows k members) ∙ at)
    where
      by : (o : Option Member) → slice_get members k ≡ o → option_map (member_of rows k) o ≡ Some m → is_queued k r ≡ true
      by None is x = absurd cc
      by (Some n) is x =
          let same : member_of rows k n ≡ m = cc in
          ap (any_at (is_queued k)) (sym there_is) ∙ sym (sits-is rows members k g n is seats) ∙ ap (sits g) same ∙ e

  seated-few : count_by (sits g) (members_from rows 0 members) ≤ length r.queue.places
  seated-few =
      let few = counted (sits g) (members_from rows 0 members) 0 r.queue.places (λ k m at e. let same : k ≡ 0 + k = omega arith in subst (λ (n : ℕ). is_queued n r ≡ true) same (queued k m at e)) in
      let all = within 0 r.queue.places in omega (arith, few, all)

module _ (w : World) (closed : Bool) (made : ℕ) (rows : Rows) (members : List Member) (kept : IsKept w closed made rows members) (g n : ℕ) where
  abbrev s : System
  s = system w closed made rows members

  given : (x : Option Subgroup) → count_by (sits g) (members_from rows 0 members) ≤ n → group_rules.due (format_of g x s) ≤ group_rules.due s + n
  given None few = omega arith
  given (Some x) few =
      let more : group_rules.due (format_of g (Some x) s) ≡ group_rules.due s + count_by (sits g) (members_from rows 0 members) = due-given g (record { made = made; says = says_next x }) w.peers (members_from rows 0 members) in
      omega (arith, few, more)

  due-by : (o : Option Row) → row_at g rows ≡ o → option_map (λ (r : Row). length r.queue.places) o ≡ Some n → group_rules.due (format_of g (subgroup_at g s) s) ≤ group_rules.due s + n
  due-by None at e = absurd cc
  due-by (Some r) at e = let some = seated-few rows members g r kept.seated at in let same : length r.queue.places ≡ n = cc in given (subgroup_at g s) (omega (arith, some, same))

pub packet-due : (w : World) (closed : Bool) (made : ℕ) (rows : Rows) (members : List Member) (s : System) → system w closed made rows members ≡ s → IsKept w closed made rows members
    → (g n : ℕ) → option_map (λ (r : Row). length r.queue.places) (row_at g rows) ≡ Some n → group_rules.due (format_of g (subgroup_at g s) s) ≤ group_rules.due s + n
packet-due w closed made rows members s view kept g n is =
    subst (λ (t : System). group_rules.due (format_of g (subgroup_at g t) t) ≤ group_rules.due t + n) view (due-by w closed made rows members kept g n (row_at g rows) refl is)

-- a row that passes a test is there
pub row-is-there : (test : Row → Bool) (o : Option Row) → any_at test o ≡ true → IsSome o
row-is-there test None e = absurd cc
row-is-there test (Some r) e = refl
