-- What happens to the tables of an Adj-RIB-Out.
use Rattle.std.proofs.Common.{◌≡◌, Bool, true, false, List, [], ◌∷◌, Option, Some, None, refl, sym, ◌∙◌, ap, subst}
use Rattle.std.specs.Prelude.{◌&&◌, ◌||◌, not, is_some, if◌then◌else◌}
use Rattle.std.specs.Option.{option_eq}
use Rattle.std.specs.List.{fold}
use Rattle.std.specs.Map.{keys_of}
use Rattle.std.specs.BTreeMap.{is_at}
use Rattle.std.proofs.lemmas.Map.Keys.{IsDistinct-from_sorted}
use Rattle.ug_types.specs.declared.key.Key.{Key}
use Rattle.ug_types.specs.declared.route.OutAttrs.{OutAttrs}
use Rattle.ug_outbound.specs.declared.key.GroupKey.{GroupKey}
use Rattle.ug_world.specs.World.{World}
use Rattle.ug_world.specs.Private.{wanted, keys_of as world_keys}
use Rattle.ug_adjout.specs.Tables.{has, joined, value_at, with_value, IsTable}
use Rattle.ug_adjout.specs.Pending.{nothing_out, waits, still_forced, with_formatted, IsExact}
use Rattle.ug_adjout.specs.TableLaws.{at_turned, one_key, value_at-other, value_at-here, with_value-sorted, has-filter, has-joined, has-keys_of, sorted-joined}
use Rattle.ug_adjout.specs.PendingLaws.{has-requeue, distinct-requeue, exact-with_all_forced, exact-with_all_formatted, exact-nothing_out}
use Rattle.ug_pack.specs.Ready.{key_order}
use Rattle.ug_pack.proofs.Keys.{key_total, key_exact}
use Rattle.ug_group_rules.specs.Packets.{Rows, Out, same_out, with_wanted, wanted_rows, with_all_desired, all_desired, all_forced, with_told}

-- the key's row in the tables
abbrev pub row_at : Rows → Key → Option OutAttrs
row_at rows q = value_at key_order rows q

abbrev pub is_forced : Out → Key → Bool
is_forced out q = has key_order out.forced q

-- the pending list of the Adj-RIB-Out is exact
abbrev pub IsOut : Out → Type 0
IsOut out = IsExact key_order same_out out

-- ---- a packet tells keys

told_by : {V : Type 0} (a b : Bool) (here there : V) → (if b then here else (if a then here else there)) ≡ (if a || b then here else there)
told_by true true here there = refl
told_by true false here there = refl
told_by false b here there = refl

one_told : (out : Out) (key q : Key) → IsTable key_order out.formatted → row_at (with_formatted key_order same_out out key).formatted q ≡ (if is_at (key_order q) key then row_at out.desired q else row_at out.formatted q)
one_told out key q sorted = by (is_at (key_order q) key) refl
  where
    by : (b : Bool) → is_at (key_order q) key ≡ b → row_at (with_value key_order out.formatted key (row_at out.desired key)) q ≡ (if b then row_at out.desired q else row_at out.formatted q)
    by true at =
        let same : q ≡ key = one_key key_total key_exact q key at in
        subst (λ (k : Key). row_at (with_value key_order out.formatted key (row_at out.desired key)) k ≡ row_at out.desired k) (sym same) (value_at-here key_total key_exact out.formatted key (row_at out.desired key) sorted)
    by false at = value_at-other key_total key_exact out.formatted key q (row_at out.desired key) at

pub told-formatted : (keys : List Key) (out : Out) (q : Key) → IsTable key_order out.formatted → row_at (with_told keys out).formatted q ≡ (if has key_order keys q then row_at out.desired q else row_at out.formatted q)
told-formatted [] out q sorted = refl
told-formatted (key ∷ keys) out q sorted =
    told-formatted keys (with_formatted key_order same_out out key) q (with_value-sorted key_total key_exact out.formatted key (row_at out.desired key) sorted)
    ∙ ap (λ (v : Option OutAttrs). if has key_order keys q then row_at out.desired q else v) (one_told out key q sorted)
    ∙ told_by (is_at (key_order q) key) (has key_order keys q) (row_at out.desired q) (row_at out.formatted q)

pub told-desired : (keys : List Key) (out : Out) → (with_told keys out).desired ≡ out.desired
told-desired [] out = refl
told-desired (key ∷ keys) out = told-desired keys (with_formatted key_order same_out out key)

and_both : (a b f : Bool) → ((not a && f) && not b) ≡ (f && not (a || b))
and_both true b true = refl
and_both true b false = refl
and_both false b f = refl

no_keys : (f : Bool) → f ≡ (f && not false)
no_keys true = refl
no_keys false = refl

pub told-forced : (keys : List Key) (out : Out) (q : Key) → is_forced (with_told keys out) q ≡ (is_forced out q && not (has key_order keys q))
told-forced [] out q = no_keys (is_forced out q)
told-forced (key ∷ keys) out q =
    told-forced keys (with_formatted key_order same_out out key) q
    ∙ ap (λ (b : Bool). b && not (has key_order keys q)) (has-filter key_total key_exact (λ k. not (is_at (key_order key) k)) out.forced q ∙ ap (λ (b : Bool). not b && is_forced out q) (at_turned key_total key_exact key q))
    ∙ and_both (is_at (key_order q) key) (has key_order keys q) (is_forced out q)

pub told-exact : (keys : List Key) (out : Out) → IsOut out → IsOut (with_told keys out)
told-exact keys out is = exact-with_all_formatted key_total key_exact same_out keys out is

-- ---- all keys are forced

pub forced-all : (out : Out) (q : Key) → is_forced (all_forced out) q ≡ (is_some (row_at out.formatted q) || is_some (row_at out.desired q))
forced-all out q =
    has-joined key_total key_exact (keys_of out.formatted) (keys_of out.desired) q
    ∙ ap (λ (b : Bool). b || has key_order (keys_of out.desired) q) (has-keys_of key_total key_exact out.formatted q)
    ∙ ap (λ (b : Bool). is_some (row_at out.formatted q) || b) (has-keys_of key_total key_exact out.desired q)

pub forced-exact : (out : Out) → IsOut out → IsOut (all_forced out)
forced-exact out is = exact-with_all_forced key_total key_exact same_out out is

-- ---- other rows are desired

some_of : (f d : Option OutAttrs) (h : Bool) → (not (option_eq same_out f d) || (h && is_some d)) ≡ true → (is_some f || is_some d) ≡ true
some_of None None h e = absurd (let z = sym e ∙ none h in cc)
  where
    none : (b : Bool) → (false || (b && false)) ≡ false
    none true = refl
    none false = refl
some_of None (Some d) h e = refl
some_of (Some f) d h e = refl

pub desired-forced : (rows : Rows) (out : Out) (q : Key) → is_forced (with_all_desired rows out) q ≡ ((is_some (row_at out.formatted q) || is_some (row_at rows q)) && is_forced out q)
desired-forced rows out q = has-filter key_total key_exact (λ k. is_some (row_at out.formatted k) || is_some (row_at rows k)) out.forced q

pub desired-exact : (rows : Rows) (out : Out) → IsTable key_order rows → IsOut out → IsOut (with_all_desired rows out)
desired-exact rows out sorted is =
    let forced = still_forced key_order out.formatted rows out.forced in
    let keys = joined key_order (keys_of out.formatted) (keys_of rows) in
    record {
      all = λ q. has-requeue key_total key_exact (waits key_order same_out out.formatted rows forced) out.pending keys q
          (λ waiting listed. has-joined key_total key_exact (keys_of out.formatted) (keys_of rows) q
          ∙ ap (λ (b : Bool). b || has key_order (keys_of rows) q) (has-keys_of key_total key_exact out.formatted q)
          ∙ ap (λ (b : Bool). is_some (row_at out.formatted q) || b) (has-keys_of key_total key_exact rows q)
          ∙ some_of (row_at out.formatted q) (row_at rows q) (has key_order forced q) waiting);
      once = distinct-requeue key_total key_exact (waits key_order same_out out.formatted rows forced) out.pending keys is.once
          (IsDistinct-from_sorted key_order keys (sorted-joined key_total key_exact (keys_of out.formatted) (keys_of rows) is.formatted_rows));
      formatted_rows = is.formatted_rows;
      desired_rows = sorted;
    }

pub nothing-exact : IsOut nothing_out
nothing-exact = exact-nothing_out same_out

-- ---- what a key wants

wanted_sorted : (group : GroupKey) (w : World) (keys : List Key) (rows : Rows) → IsTable key_order rows → IsTable key_order (fold (with_wanted group w) rows keys)
wanted_sorted group w [] rows sorted = sorted
wanted_sorted group w (key ∷ keys) rows sorted = wanted_sorted group w keys (with_wanted group w rows key) (with_value-sorted key_total key_exact rows key (wanted group w key) sorted)

wanted_value : (group : GroupKey) (w : World) (keys : List Key) (rows : Rows) (q : Key) → IsTable key_order rows → row_at (fold (with_wanted group w) rows keys) q ≡ (if has key_order keys q then wanted group w q else row_at rows q)
wanted_value group w [] rows q sorted = refl
wanted_value group w (key ∷ keys) rows q sorted =
    wanted_value group w keys (with_wanted group w rows key) q (with_value-sorted key_total key_exact rows key (wanted group w key) sorted)
    ∙ ap (λ (v : Option OutAttrs). if has key_order keys q then wanted group w q else v) (one (is_at (key_order q) key) refl)
    ∙ told_by (is_at (key_order q) key) (has key_order keys q) (wanted group w q) (row_at rows q)
  where
    one : (b : Bool) → is_at (key_order q) key ≡ b → row_at (with_wanted group w rows key) q ≡ (if b then wanted group w q else row_at rows q)
    one true at =
        let same : q ≡ key = one_key key_total key_exact q key at in
        subst (λ (k : Key). row_at (with_wanted group w rows key) k ≡ wanted group w k) (sym same) (value_at-here key_total key_exact rows key (wanted group w key) sorted)
    one false at = value_at-other key_total key_exact rows key q (wanted group w key) at

no_rows : IsTable {V = OutAttrs} key_order []
no_rows = nothing-exact.formatted_rows

pub wanted-sorted : (group : GroupKey) (w : World) → IsTable key_order (wanted_rows group w)
unfolding wanted_rows
wanted-sorted group w = wanted_sorted group w (world_keys group.add_path w.routes) [] no_rows

pub wanted-value : (group : GroupKey) (w : World) (q : Key) → row_at (wanted_rows group w) q ≡ (if has key_order (world_keys group.add_path w.routes) q then wanted group w q else None)
unfolding wanted_rows
wanted-value group w q = wanted_value group w (world_keys group.add_path w.routes) [] q no_rows

pub fresh-exact : (rows : Rows) → IsTable key_order rows → IsOut (all_desired rows)
fresh-exact rows sorted = desired-exact rows nothing_out sorted nothing-exact
