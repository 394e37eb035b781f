-- Routes' keys, and the order of prefixes.
use Rattle.std.specs.Prelude.{ℕ, ◌+◌, ◌==◌, Bool, ◌&&◌, if◌then◌else◌}
use Rattle.std.specs.declared.cmp.Ordering.{Ordering}
use Rattle.std.specs.Ordering.{nat_cmp, ordering_then}
use Rattle.std.specs.Cmp.{IsTotalOrder, then_total, on_total, nat_cmp_total}
use Rattle.ug_types.specs.declared.family.Family.{Family}
use Rattle.ug_types.specs.declared.family.Family.TheVariants.{V4, V6}
use Rattle.ug_types.specs.declared.key.Key.{Key}
use Rattle.ug_types.specs.Ip.{IpPrefix, same_family, bytes_for}

-- the bytes that a route takes: its length, its bits, and its identifier where that isn't 0 (RFC 4271 section 4.3, RFC 7911 section 3)
abbrev pub weight_of : Key → ℕ
weight_of key = 1 + bytes_for key.prefix.len + (if key.id == 0 then 0 else 4)

abbrev pub same_prefix : IpPrefix → IpPrefix → Bool
same_prefix a b = same_family a.family b.family && ((a.bits == b.bits) && (a.len == b.len))

abbrev pub same_key : Key → Key → Bool
same_key a b = same_prefix a.prefix b.prefix && (a.id == b.id)

-- IPv4 stands before IPv6
abbrev pub family_rank : Family → ℕ
family_rank V4 = 0
family_rank V6 = 1

-- prefixes order by family, bits, length
abbrev pub prefix_cmp : IpPrefix → IpPrefix → Ordering
prefix_cmp a b = ordering_then (nat_cmp (family_rank a.family) (family_rank b.family)) (ordering_then (nat_cmp a.bits b.bits) (nat_cmp a.len b.len))

pub prefix_cmp_total : IsTotalOrder prefix_cmp
prefix_cmp_total =
    then_total (on_total (λ (p : IpPrefix). family_rank p.family) nat_cmp_total) (then_total (on_total (λ (p : IpPrefix). p.bits) nat_cmp_total) (on_total (λ (p : IpPrefix). p.len) nat_cmp_total))
