-- A session has one first breach, and each key one line of a certificate.
use Rattle.std.proofs.Common.{◌≡◌, ◌≢◌, ℕ, Bool, List, Option, Some, None, refl, sym, ◌∙◌, ap, subst, arith}
use Rattle.std.specs.declared.cmp.Ordering.{Ordering}
use Rattle.std.specs.declared.cmp.Ordering.TheVariants.{Less, Equal, Greater}
use Rattle.std.specs.Ordering.{ordering_reverse}
use Rattle.std.specs.Option.{option_cmp}
use Rattle.std.specs.Cmp.{IsTotalOrder, then_total, on_total, nat_cmp_total}
use Rattle.std.specs.Cmp.Lexicographic.{options_total}
use Rattle.std.specs.FinMap.{IsAntisymmetric, nat_cmp-IsAntisymmetric}
use Rattle.ug_types.specs.Ip.{IpPrefix}
use Rattle.ug_types.specs.declared.key.Key.{Key}
use Rattle.ug_types.specs.declared.family.Family.{Family}
use Rattle.ug_types.specs.declared.mark.Mark.{Mark}
use Rattle.ug_types.specs.Messages.{Message}
use Rattle.ug_types.specs.Keys.{prefix_cmp}
use Rattle.ug_types.specs.Orders.{key_cmp, key_cmp_total}
use Rattle.ug_types.specs.OrderLaws.{then_both, same_on, family_same}
use Rattle.ug_message.specs.Tables.{Table}
use Rattle.ug_message.specs.Climbing.{ClimbsTo, values_at}
use Rattle.ug_message.specs.ClimbingLaws.{same_values}
use Rattle.ug_hearing.specs.Shifts.{shifts_from}
use Rattle.ug_hearing.specs.declared.breach.Ending.{Ending}
use Rattle.ug_hearing.specs.declared.breach.BreachKind.{BreachKind}
use Rattle.ug_hearing.specs.declared.breach.BreachKind.TheVariants as kinds
use Rattle.ug_hearing.specs.declared.breach.Breach.{Breach}
use Rattle.ug_hearing.specs.Breaches.{kind_number, breach_cmp, IsFirstBreach}
use Rattle.ug_hearing.specs.Certificates.{KeyClimb, IsClimbOf}

breach_total : IsTotalOrder breach_cmp
breach_total =
    then_total (on_total (λ (b : Breach). b.message) nat_cmp_total) (then_total (on_total (λ (b : Breach). kind_number b.kind) nat_cmp_total) (on_total (λ (b : Breach). b.key) (options_total key_cmp_total)))

prefix_same : IsAntisymmetric prefix_cmp
prefix_same a b e =
    let one = then_both _ _ e in
    let two = then_both _ _ one.1 in
    let family = family_same a.family b.family one.0 in
    let bits = nat_cmp-IsAntisymmetric a.bits b.bits two.0 in
    let len = nat_cmp-IsAntisymmetric a.len b.len two.1 in
    same_on {B = Family × (ℕ × ℕ)} (λ (x : IpPrefix). (x.family, (x.bits, x.len))) (λ p. record { family = p.0; bits = p.1.0; len = p.1.1 }) (λ x. refl) a b cc

key_same : IsAntisymmetric key_cmp
key_same a b e =
    let parts = then_both _ _ e in
    let prefix = prefix_same a.prefix b.prefix parts.0 in
    let id = nat_cmp-IsAntisymmetric a.id b.id parts.1 in
    same_on {B = IpPrefix × ℕ} (λ (x : Key). (x.prefix, x.id)) (λ p. record { prefix = p.0; id = p.1 }) (λ x. refl) a b cc

option_same : IsAntisymmetric (option_cmp key_cmp)
option_same None None e = refl
option_same None (Some y) e = absurd cc
option_same (Some x) None e = absurd cc
option_same (Some x) (Some y) e = ap Some (key_same x y e)

kind_same : (a b : BreachKind) → kind_number a ≡ kind_number b → a ≡ b
kind_same kinds.Unread kinds.Unread e = refl
kind_same kinds.Unread kinds.Stuck e = absurd (omega (arith, e))
kind_same kinds.Unread kinds.Amiss e = absurd (omega (arith, e))
kind_same kinds.Unread kinds.Off e = absurd (omega (arith, e))
kind_same kinds.Stuck kinds.Unread e = absurd (omega (arith, e))
kind_same kinds.Stuck kinds.Stuck e = refl
kind_same kinds.Stuck kinds.Amiss e = absurd (omega (arith, e))
kind_same kinds.Stuck kinds.Off e = absurd (omega (arith, e))
kind_same kinds.Amiss kinds.Unread e = absurd (omega (arith, e))
kind_same kinds.Amiss kinds.Stuck e = absurd (omega (arith, e))
kind_same kinds.Amiss kinds.Amiss e = refl
kind_same kinds.Amiss kinds.Off e = absurd (omega (arith, e))
kind_same kinds.Off kinds.Unread e = absurd (omega (arith, e))
kind_same kinds.Off kinds.Stuck e = absurd (omega (arith, e))
kind_same kinds.Off kinds.Amiss e = absurd (omega (arith, e))
kind_same kinds.Off kinds.Off e = refl

breach_same : IsAntisymmetric breach_cmp
breach_same a b e =
    let one = then_both _ _ e in
    let two = then_both _ _ one.1 in
    let message = nat_cmp-IsAntisymmetric a.message b.message one.0 in
    let kind = kind_same a.kind b.kind (nat_cmp-IsAntisymmetric (kind_number a.kind) (kind_number b.kind) two.0) in
    let key = option_same a.key b.key two.1 in
    same_on {B = BreachKind × (ℕ × Option Key)} (λ (x : Breach). (x.kind, (x.message, x.key))) (λ p. record { kind = p.0; message = p.1.0; key = p.1.1 }) (λ x. refl) a b cc

not_after : (one other : Ordering) → one ≢ Greater → other ≢ Greater → one ≡ ordering_reverse other → one ≡ Equal
not_after Less Less h k e = absurd cc
not_after Less Equal h k e = absurd cc
not_after Less Greater h k e = absurd (k refl)
not_after Equal other h k e = refl
not_after Greater other h k e = absurd (h refl)

module _ (past : List Table) (table_at : ℕ → Option Table) (syncs : List Mark) (lost : Bool) (last : Option Table) (messages : List Message) (ending : Ending) where
  pub one-first : (b c : Breach) → IsFirstBreach past table_at syncs lost last messages ending b → IsFirstBreach past table_at syncs lost last messages ending c → b ≡ c
  one-first b c h k = breach_same b c (not_after (breach_cmp b c) (breach_cmp c b) (h.first c k.is) (k.first b h.is) (breach_total.antisymm b c))

pub one-climb : (past tables : List Table) (k l : KeyClimb) → IsClimbOf past tables k → IsClimbOf past tables l → k.key ≡ l.key → k.shifts ≡ l.shifts
one-climb past tables k l h i same =
    let other : ClimbsTo (values_at k.key past) 0 i.places (values_at k.key tables) = subst (λ key. ClimbsTo (values_at key past) 0 i.places (values_at key tables)) (sym same) i.climb in
    let places = same_values (values_at k.key tables) (values_at k.key past) 0 h.places i.places h.climb other in
    h.shifts ∙ (ap (λ (ps : List ℕ). shifts_from 0 1 ps) places ∙ sym i.shifts)
