use Rattle.std.proofs.Common.{◌≡◌, ◌+◌, ◌<◌, ◌≤◌, ℕ, zero, suc, List, [], ◌∷◌, ◌++◌, length, map, take, get_or, refl, sym, ◌∙◌, ap, subst, arith}
use Rattle.std.proofs.lemmas.List.{take_more}
use Rattle.ug_types.specs.declared.key.Key.{Key}
use Rattle.ug_message.specs.Tables.{Table}
use Rattle.ug_hearing.specs.declared.change.Change.{Change}
use Rattle.ug_hearing.specs.Pasts.{Value}
use Rattle.ug_hearing.specs.Logs.{IsLog, IsNoted}
use Rattle.ug_hearing.proofs.Logged.{IsNotedTo, none-noted, one-noted, all-noted}
use Rattle.ug_hearing.proofs.log.Log.note_all.Goals as goal

get_map : (table : Table) (keys : List Key) (i : ℕ) (d : Value) (k : Key) → i < length keys → get_or (map table keys) i d ≡ table (get_or keys i k)
get_map table [] i d k less = absurd (omega arith)
get_map table (x ∷ keys) zero d k less = refl
get_map table (x ∷ keys) (suc i) d k less = get_map table keys i d k (omega arith)

on : (keys : List Key) (i : ℕ) (k : Key) (v : Value) (tables : List Table) (table : Table) (version : ℕ) (old now new : List (Key × List Change)) → IsLog old tables → length tables ≡ version → v ≡ table k
    → take (i + 1) keys ≡ take i keys ++ k ∷ [] → IsNotedTo (take i keys) tables table old now → IsNoted version k v now new → IsNotedTo (take (i + 1) keys) tables table old new
on keys i k v tables table version old now new log size value front h n =
    subst (λ (ks : List Key). IsNotedTo ks tables table old new) (sym front)
    (one-noted (take i keys) k tables table old now new log h (subst (λ m. IsNoted m k (table k) now new) (sym size) (subst (λ (w : Value). IsNoted version k w now new) value n)))

take_all : (keys : List Key) (i : ℕ) → length keys ≤ i → take i keys ≡ keys
take_all [] zero far = refl
take_all [] (suc i) far = refl
take_all (x ∷ keys) zero far = absurd (omega arith)
take_all (x ∷ keys) (suc i) far = ap (λ (ks : List Key). x ∷ ks) (take_all keys i (omega arith))

pub loop-i-init : goal.loop-i-init
loop-i-init c = λ tables table log size is. none-noted tables table c.args.self.now.changes

pub loop-i-preserved : goal.loop-i-preserved
loop-i-preserved c = λ tables table log size is.
    let k = c.index-keys-i.result in
    let all = take_more c.args.keys.now c.loop-i.i k c.loop-i-test.true in
    let front = all ∙ ap (λ (x : Key). take c.loop-i.i c.args.keys.now ++ x ∷ []) (sym c.index-keys-i.is) in
    let value =
    c.as_ref-value.ensures.value
    ∙ (c.index-values-i.is
    ∙ (ap (λ (vs : List Value). get_or vs c.loop-i.i c.index-values-i.result) is
    ∙ (get_map table c.args.keys.now c.loop-i.i c.index-values-i.result k c.loop-i-test.true ∙ ap table (sym c.index-keys-i.is))))
    in
    on c.args.keys.now c.loop-i.i k _ tables table c.args.version c.args.self.now.changes c.loop-i.self.changes c.note.new.self.changes log size value front (c.loop-i.invariant tables table log size is) c.in_ok-note.ensures

pub returns : goal.returns
returns c = λ tables table log size is kept.
    let done = c.loop-i.invariant tables table log size is in
    all-noted c.args.keys.now tables table c.args.self.now.changes c.loop-i.self.changes log
    (subst (λ (ks : List Key). IsNotedTo ks tables table c.args.self.now.changes c.loop-i.self.changes) (take_all c.args.keys.now c.loop-i.i c.loop-i-test.false) done) kept
