-- Messages of a peer as hexadecimal text.
use Rattle.std.specs.Prelude.{ℕ, List, Option, Some, None, Result, Ok, Err}
use Rattle.hex.specs.Hex.{decode_of}
use Rattle.hex.specs.declared.error.FromHexError.{FromHexError}
use Rattle.ug_policy.specs.Requests.{refresh_refusal}
use Rattle.ug_policy.specs.OrfChanges.{OrfRequest}
use Rattle.ug_policy.specs.OrfReading.{orf_of}
use Rattle.ug_events.specs.Reads.{Reads, bad_words, refused, inner_refused, ◌>>=◌}

abbrev pub decoded : Result (List ℕ) FromHexError → Reads (List ℕ)
decoded (Ok bytes) = Ok bytes
decoded (Err e) = refused bad_words

-- an even number of hexadecimal digits of either case
abbrev pub bytes_of : List ℕ → Reads (List ℕ)
bytes_of word = decoded (decode_of word)

abbrev pub where_request : Option ℕ → Reads (Unit {0})
where_request None = Ok tt
where_request (Some number) = inner_refused number

-- a request for all routes
abbrev pub request_of : List ℕ → Reads (Unit {0})
request_of word = bytes_of word >>= λ bytes. where_request (refresh_refusal bytes)

abbrev pub where_orf : Result OrfRequest ℕ → Reads OrfRequest
where_orf (Ok request) = Ok request
where_orf (Err number) = inner_refused number

-- changes of the peer's own list
abbrev pub list_of : List ℕ → Reads OrfRequest
list_of word = bytes_of word >>= λ bytes. where_orf (orf_of bytes)
