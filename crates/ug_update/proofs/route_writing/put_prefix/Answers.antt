use Rattle.std.proofs.Common.{◌≡◌, ℕ, List, [], ◌∷◌, ◌++◌, take, ap, subst, ◌∙◌, append_assoc}
use Rattle.std.specs.Int.{w128, to_be_bytes}
use Rattle.ug_types.specs.Ip.{IpPrefix, bytes_for}
use Rattle.ug_update.proofs.route_writing.put_prefix.Goals as goal

joined : (old one two bytes : List ℕ) (p : IpPrefix) → one ≡ old ++ p.len ∷ [] → two ≡ one ++ take (bytes_for p.len) bytes → bytes ≡ to_be_bytes w128 p.bits
    → two ≡ old ++ p.len ∷ take (bytes_for p.len) (to_be_bytes w128 p.bits)
joined old one two bytes p first second is =
    second ∙ ap (λ (x : List ℕ). x ++ take (bytes_for p.len) bytes) first ∙ append_assoc old (p.len ∷ []) (take (bytes_for p.len) bytes)
    ∙ ap (λ (x : List ℕ). old ++ p.len ∷ take (bytes_for p.len) x) is

pub returns : goal.returns
returns c =
    let whole = joined c.args.out.now.items c.put.new.out.items c.put-2.new.out.items c.sixteen_bytes-bytes.result (record { family = c.prefix.inside.family; bits = c.prefix.inside.bits; len = c.prefix.inside.len }) c.put.ensures.items c.put-2.ensures.items c.sixteen_bytes-bytes.ensures in
    subst (λ (p : IpPrefix). c.put-2.new.out.items ≡ c.args.out.now.items ++ p.len ∷ take (bytes_for p.len) (to_be_bytes w128 p.bits)) c.prefix.view_is whole
