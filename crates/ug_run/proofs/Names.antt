-- The peers of a configuration have names that are words.
use Rattle.std.proofs.Common.{◌≡◌, ℕ, Bool, true, false, List, [], ◌∷◌, ◌++◌, map, Option, Some, None, Ok, inl, inr, refl, ◌∙◌, ap, subst}
use Rattle.std.specs.Prelude.{codes, if◌then◌else◌}
use Rattle.std.specs.List.{list_all}
use Rattle.toml.specs.Data.{Data, as_str}
use Rattle.ug_types.specs.Bytes.{same_bytes}
use Rattle.ug_types.specs.Names.{is_name}
use Rattle.ug_types.specs.declared.family.Family.{Family}
use Rattle.ug_types.specs.declared.family.Family.TheVariants.{V4}
use Rattle.ug_text.specs.Cutting.{◌>>=◌ as ◌>=>◌}
use Rattle.ug_board.specs.Deeds.{Each}
use Rattle.ug_outbound.specs.declared.peer.Peer.{Peer}
use Rattle.ug_world.specs.Parts.{fresh}
use Rattle.ug_world.specs.World.{World}
use Rattle.ug_report.specs.Report.{names_in}
use Rattle.ug_config.specs.declared.kind.Kind.TheVariants as kinds
use Rattle.ug_config.specs.declared.kind.Need.TheVariants as needs
use Rattle.ug_config.specs.declared.given.Given.{Given}
use Rattle.ug_config.specs.declared.given.Given.TheVariants as givens
use Rattle.ug_config.specs.Reads.{Refusal, ◌>>=◌, or_refused, missing}
use Rattle.ug_config.specs.Kinds.{peer_name, family_at, tables_at}
use Rattle.ug_config.specs.Tables.{document, fields}
use Rattle.ug_config.specs.Looks.{value_at, as_name}
use Rattle.ug_config.specs.Kinds.{value_as}
use Rattle.ug_config.specs.Rows.{document_rows, peer_rows}
use Rattle.ug_config.specs.Readings.{Tables, local_table, local, lists, maps, policies, peers, tables, peer, peer_of, own_name}
use Rattle.ug_config.specs.Checks.{checked, fault, where_none, setup}
use Rattle.ug_config.specs.Worlds.{world_of, config}
use Rattle.ug_config.proofs.Inverting.{ok, ok_is, some_is, bound, bound_option, first_of, second_of, all_read}
use Rattle.ug_commands.proofs.Found.{IsRead, found}
use Rattle.ug_audit_rules.specs.Reports.{IsWord}
use Rattle.ug_audit_rules.proofs.Named.{name-word}

named_only : (text x : List ℕ) → peer_name text ≡ Some x → is_name x ≡ true
named_only text x h = by (same_bytes text (codes "local")) (is_name text) refl h
  where
    by : (a b : Bool) → is_name text ≡ b → (if a then None else (if b then Some text else None)) ≡ Some x → is_name x ≡ true
    by true b is e = absurd cc
    by false true is e = subst (λ (y : List ℕ). is_name y ≡ true) (some_is text x e) is
    by false false is e = absurd cc

name_read : (f : Family) (d : Data) (v : Given) (x : List ℕ) → value_as f kinds.PeerName d ≡ Some v → as_name v ≡ Some x → is_name x ≡ true
name_read f d v x h named =
    let text = bound_option (as_str d) (λ text. peer_name text >=> λ y. Some (givens.Name y)) v h in
    let y = bound_option (peer_name text.0) (λ y. Some (givens.Name y)) v text.2 in
    let same : y.0 ≡ x = some_is y.0 x (ap as_name (some_is (givens.Name y.0) v y.2) ∙ named) in
    subst (λ (z : List ℕ). is_name z ≡ true) same (named_only text.0 y.0 y.1)

required_name : (f : Family) (name : List ℕ) (v : Given) (x : List ℕ) → IsRead f (record { name = name; kind = kinds.PeerName; need = needs.Required }) v → as_name v ≡ Some x → is_name x ≡ true
required_name f name v x (inl h) named = name_read f h.0 v x h.1 named
required_name f name v x (inr e) named = absurd cc

given_there : (field : List ℕ) (o : Option (List ℕ)) (x : List ℕ) → or_refused missing field o ≡ ok x → o ≡ Some x
given_there field (Some y) x h = ap Some (ok_is y x h)
given_there field None x h = absurd cc

abbrev has_name : Peer → Bool
has_name p = is_name p.name

peer_named : (way : List ℕ) (d : Data) (p : Peer) → peer way d ≡ ok p → has_name p ≡ true
unfolding peer peer_rows
peer_named way d p h =
    let es = bound (fields (family_at d) way peer_rows d) (λ es. own_name way es >>= λ name. Ok (peer_of (family_at d) es name)) p h in
    let name = bound (own_name way es.0) (λ name. Ok (peer_of (family_at d) es.0 name)) p es.2 in
    let read = found (family_at d) way d (codes "name") peer_rows es.0 _ es.1 refl in
    let there = given_there (way ++ codes "name") (as_name (value_at (codes "name") es.0)) name.0 name.1 in
    subst (λ (x : Peer). has_name x ≡ true) (ok_is (peer_of (family_at d) es.0 name.0) p name.2) (required_name (family_at d) (codes "name") _ name.0 read there)

peers_named : (d : Data) (ps : List Peer) → peers d ≡ ok ps → list_all has_name ps ≡ true
unfolding peers
peers_named d ps h = all_read peer has_name peer_named (codes "peer") 0 (tables_at (codes "peer") d) ps h

abbrev HaveNames : Tables → Type 0
HaveNames t = list_all has_name t.peers ≡ true

tables_named : (d : Data) (t : Tables) → tables d ≡ ok t → HaveNames t
unfolding tables
tables_named d t h =
    let es = bound (fields V4 [] document_rows d) _ t h in
    let own = bound (local_table d) _ t es.2 in
    let l = bound (local own.0) _ t own.2 in
    let ls = bound (lists d) _ t l.2 in
    let ms = bound (maps d) _ t ls.2 in
    let pols = bound (policies d) _ t ms.2 in
    let ps = bound (peers d) (λ ps. Ok (record { local = l.0; lists = ls.0; maps = ms.0; policies = pols.0; peers = ps })) t pols.2 in
    subst HaveNames (ok_is (record { local = l.0; lists = ls.0; maps = ms.0; policies = pols.0; peers = ps.0 }) t ps.2) (peers_named d ps.0 ps.1)

passed : (s t : Tables) (o : Option Refusal) → where_none s o ≡ ok t → s ≡ t
passed s t None h = ok_is s t h
passed s t (Some r) h = absurd cc

setup_named : (bytes : List ℕ) (t : Tables) → setup bytes ≡ Ok t → HaveNames t
unfolding setup
setup_named bytes t h =
    let d = bound (document bytes) (λ d. tables d >>= λ s. checked s) t h in
    let s = bound (tables d.0) (λ s. checked s) t d.2 in
    subst HaveNames (passed s.0 t (fault s.0) s.2) (tables_named d.0 s.0 s.1)

all_words : (ps : List Peer) → list_all has_name ps ≡ true → Each IsWord (map (λ s. s.peer.name) (map fresh ps))
all_words [] h = tt
all_words (p ∷ ps) h = (name-word p.name (first_of (has_name p) (list_all has_name ps) h), all_words ps (second_of (has_name p) (list_all has_name ps) h))

pub config-words : (bytes : List ℕ) (w : World) → config bytes ≡ Ok w → Each IsWord (names_in w)
unfolding config
config-words bytes w h =
    let t = bound (setup bytes) (λ t. Ok (world_of t)) w h in
    subst (λ (v : World). Each IsWord (names_in v)) (ok_is (world_of t.0) w t.2) (all_words t.0.peers (setup_named bytes t.0 t.1))
