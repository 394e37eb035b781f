-- A ROUTE-REFRESH that carries entries of a prefix list of the peer's own (RFC 5291 section 4, RFC 5292). The codes
-- and the order of the fields are this project's profile.
use Rattle.std.specs.Prelude.{ℕ, ◌+◌, ◌*◌, ◌/◌, ◌^◌, nat_lt, ◌==◌, Bool, ◌&&◌, ◌||◌, not, bit_and, List, [], ◌∷◌, ◌++◌, length, take, drop, replicate, slice_index, slice_range, Option, Some, None, Result, Ok, Err, if◌then◌else◌}
use Rattle.std.specs.Int.{w16, w32, from_be_bytes}
use Rattle.ug_types.specs.declared.family.Family.TheVariants.{V4}
use Rattle.ug_types.specs.Ip.{IpPrefix, cleared, bytes_for}
use Rattle.ug_policy.specs.declared.list_entry.ListEntry.{ListEntry}
use Rattle.ug_policy.specs.Lists.{is_good}
use Rattle.ug_policy.specs.Requests.{length_field, kind_refusal, reserved_field, or_else}
use Rattle.ug_policy.specs.declared.orf_action.Action.{Action}
use Rattle.ug_policy.specs.declared.orf_action.Action.TheVariants.{Add, Remove, RemoveAll}
use Rattle.ug_policy.specs.OrfChanges.{OrfChange, OrfRequest}
use Rattle.ug_policy.specs.OrfWalking.{◌>>=◌, all_in}

-- ---- one entry

-- the two high bits: 0 ADD, 1 REMOVE, 2 REMOVE-ALL
abbrev pub action_field : List ℕ → ℕ
action_field bytes = slice_index bytes 0 / 64

-- the bit behind them: 0 permit, 1 deny
abbrev pub permit_field : List ℕ → Bool
permit_field bytes = bit_and (slice_index bytes 0) 32 == 0

-- a least or a greatest length of 0 is absent
abbrev pub bound : ℕ → Option ℕ
bound n = if n == 0 then None else Some n

abbrev pub len_field : List ℕ → ℕ
len_field bytes = slice_index bytes 7

-- the bits that up to four bytes begin with; the bytes that are missing of the four are zero
abbrev pub leading_bits : List ℕ → ℕ
leading_bits bytes = from_be_bytes w32 (take 4 (bytes ++ replicate 4 0)) * 2 ^ 96

-- the fewest bytes that hold the prefix; the bits past its length are not heeded
abbrev pub prefix_field : List ℕ → IpPrefix
prefix_field bytes = record {
  family = V4;
  bits = cleared (len_field bytes) (leading_bits (take (bytes_for (len_field bytes)) (drop 8 bytes)));
  len = len_field bytes;
}

-- the sequence in four bytes, the least and the greatest length, the prefix
abbrev pub entry_field : List ℕ → ListEntry
entry_field bytes = record {
  seq = from_be_bytes w32 (take 4 (drop 1 bytes));
  permit = permit_field bytes;
  prefix = prefix_field bytes;
  ge = bound (slice_index bytes 5);
  le = bound (slice_index bytes 6);
}

abbrev pub entry_size : List ℕ → ℕ
entry_size bytes = 8 + bytes_for (len_field bytes)

abbrev pub all_go : Bool → OrfChange
all_go permit = record { action = RemoveAll; permit = permit; entry = None }

abbrev pub is_about : Action → ListEntry → OrfChange
is_about action e = record { action = action; permit = e.permit; entry = Some e }

-- 8: an entry that is added isn't good
abbrev pub added_or_removed : ℕ → ListEntry → ℕ → Result (List OrfChange × ℕ) ℕ
added_or_removed action e size =
    if action == 1 then Ok (is_about Remove e ∷ [], size)
    else if is_good e then Ok (is_about Add e ∷ [], size)
    else Err 8

-- The entry that the bytes begin with, and how many of them it takes. 7 there is no such action; 6 the entry is cut
-- short before its prefix; 8 the prefix is longer than 32 bits; 6 the prefix is cut short.
unfoldable pub entry_at : List ℕ → Result (List OrfChange × ℕ) ℕ
entry_at bytes =
    if action_field bytes == 3 then Err 7
    else if action_field bytes == 2 then Ok (all_go (permit_field bytes) ∷ [], 1)
    else if nat_lt (length bytes) 8 then Err 6
    else if nat_lt 32 (len_field bytes) then Err 8
    else if nat_lt (length bytes) (entry_size bytes) then Err 6
    else added_or_removed (action_field bytes) (entry_field bytes) (entry_size bytes)

-- ---- blocks

-- a block's type, and the length of its entries in two bytes
abbrev pub block_size : List ℕ → ℕ
block_size bytes = 3 + from_be_bytes w16 (take 2 (drop 1 bytes))

-- 64 is the type of entries of a prefix list; blocks of other types are passed over
abbrev pub entries_of_type : ℕ → List ℕ → Result (List OrfChange) ℕ
entries_of_type type entries = if type == 64 then all_in entry_at entries else Ok []

abbrev pub sized : ℕ → List OrfChange → Result (List OrfChange × ℕ) ℕ
sized size changes = Ok (changes, size)

-- The entries of the block that the bytes begin with, and how many bytes it takes. 6: the block is cut short.
unfoldable pub block_at : List ℕ → Result (List OrfChange × ℕ) ℕ
block_at bytes =
    if nat_lt (length bytes) 3 then Err 6
    else if nat_lt (length bytes) (block_size bytes) then Err 6
    else entries_of_type (slice_index bytes 0) (slice_range bytes 3 (block_size bytes)) >>= sized (block_size bytes)

-- ---- the message

-- when to send the routes again: 1 IMMEDIATE, 2 DEFER
abbrev pub when_field : List ℕ → ℕ
when_field bytes = slice_index bytes 23

-- 1 a length of under 24 or over 4,096, or another than the length field says
abbrev pub is_whole : List ℕ → Bool
is_whole bytes = not (nat_lt (length bytes) 24) && not (nat_lt 4096 (length bytes)) && (length_field bytes == length bytes)

abbrev pub when_refusal : List ℕ → Option ℕ
when_refusal bytes = if (when_field bytes == 1) || (when_field bytes == 2) then None else Some 5

abbrev pub reserved_refusal : List ℕ → Option ℕ
reserved_refusal bytes = if reserved_field bytes == 0 then None else Some 9

-- 1 as above, 2 to 4 as of any ROUTE-REFRESH, 5 there is no such time, 9 the reserved byte isn't 0: in this order
abbrev pub head_refusal : List ℕ → Option ℕ
head_refusal bytes = if is_whole bytes then or_else (kind_refusal bytes) (or_else (when_refusal bytes) (reserved_refusal bytes)) else Some 1

abbrev pub request_of : ℕ → List OrfChange → Result OrfRequest ℕ
request_of when changes = Ok (record { now = when == 1; entries = changes })

abbrev pub where_no_refusal : Option ℕ → Result OrfRequest ℕ → Result OrfRequest ℕ
where_no_refusal (Some number) request = Err number
where_no_refusal None request = request

-- What a message says, or why it is refused: its head first, and then its blocks in order.
unfoldable pub orf_of : List ℕ → Result OrfRequest ℕ
orf_of bytes = where_no_refusal (head_refusal bytes) (all_in block_at (drop 24 bytes) >>= request_of (when_field bytes))
