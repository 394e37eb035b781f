-- What is told of a file that was picked, and the names that were.
use Rattle.std.proofs.Common.{◌≡◌, ℕ, ◌<◌, ◌≤◌, inl, inr, length, arith, length-append, List, [], ◌∷◌, ◌++◌, Option, Some, None, Result, Err, sym, ap, subst, ◌∙◌, append_assoc}
use Rattle.std.proofs.lemmas.List.{append-nil}
use Rattle.ug_edge.specs.Told.{AppendsAll, TakesFront, IsEnded, HasPicked, FileText, file_told, missing_or_bytes}
use Rattle.ug_pieces.specs.Lines.{lines_of}
use Rattle.ug_pieces.specs.Pieces.{HasRead}
use Rattle.ug_audit_rules.specs.Told.{most_lines}
use Rattle.ug_audit_rules.specs.Reading.{most_bytes}
use Rattle.ug_audit.specs.Files.{IsFile, IsWithin, IsPast}

-- what is left of it, where that is told
pub rest_of : Option (List ℕ) → List ℕ
rest_of None = []
rest_of (Some left) = left

-- what was read of it and what is left are its bytes
pub file_is : (files : Option (List FileText)) (name : List ℕ) (left now : Option (List ℕ)) (read : List ℕ) → HasPicked files name left → TakesFront left now read → IsFile (file_told files name) (read ++ rest_of now)
unfolding rest_of
file_is None name None now read picked taken = tt
file_is None name (Some left) now read picked taken = absurd picked
file_is (Some files) name None now read picked taken = absurd picked
file_is (Some files) name (Some left) None read picked taken = absurd taken
file_is (Some files) name (Some left) (Some now) read picked taken = subst (λ (file : Option (List ℕ)). IsFile (missing_or_bytes file) (read ++ now)) (sym picked) taken

-- where nothing is left they are what was read
pub whole_is : (files : Option (List FileText)) (name : List ℕ) (left now : Option (List ℕ)) (read : List ℕ) → HasPicked files name left → TakesFront left now read → IsEnded now → IsFile (file_told files name) read
unfolding rest_of
whole_is files name left None read picked taken ended = subst (IsFile (file_told files name)) (append-nil read) (file_is files name left None read picked taken)
whole_is files name left (Some now) read picked taken ended = subst (IsFile (file_told files name)) (ap (λ (r : List ℕ). read ++ r) ended ∙ append-nil read) (file_is files name left (Some now) read picked taken)

-- ---- limits

-- more was read than the limit
pub long_file : (files : Option (List FileText)) (name name' : List ℕ) (left now : Option (List ℕ)) (most : ℕ) → name ≡ name' → HasPicked files name left → HasRead left now (λ read. most < length read)
    → (bytes : List ℕ) × IsFile (file_told files name') bytes × (most < length bytes)
long_file files name name' left now most is picked h =
    let all = length-append h.read (rest_of now) in
    let many = h.so in
    (h.read ++ rest_of now, subst (λ (n : List ℕ). IsFile (file_told files n) (h.read ++ rest_of now)) is (file_is files name left now h.read picked h.taken), omega (arith, all, many))

pub many_bytes : (bytes : List ℕ) → 1073741824 < length bytes → IsPast bytes
unfolding most_bytes
many_bytes bytes h = inl h

pub many_lines : (bytes : List ℕ) (count : ℕ) → count ≡ length (lines_of bytes) → 2000000 < count → IsPast bytes
unfolding most_lines
many_lines bytes count is h = inr (omega (arith, is, h))

pub is_within : (bytes : List ℕ) (count : ℕ) → length bytes ≤ 1073741824 → count ≡ length (lines_of bytes) → count ≤ 2000000 → IsWithin bytes
unfolding most_bytes most_lines
is_within bytes count few is h = record { few_bytes = few; few_lines = omega (arith, is, h) }

-- ---- names

pub no_names : (names names' : Option (List (List ℕ))) → names' ≡ names → AppendsAll names names' []
no_names None None is = tt
no_names None (Some new) is = absurd cc
no_names (Some old) None is = absurd cc
no_names (Some old) (Some new) is = (let same : new ≡ old = cc in same ∙ sym (append-nil old))

pub more_names : (a b c : Option (List (List ℕ))) (xs ys : List (List ℕ)) → AppendsAll a b xs → AppendsAll b c ys → AppendsAll a c (xs ++ ys)
more_names None None None xs ys h k = tt
more_names None None (Some c) xs ys h k = absurd k
more_names None (Some b) c xs ys h k = absurd h
more_names (Some a) None c xs ys h k = absurd h
more_names (Some a) (Some b) None xs ys h k = absurd k
more_names (Some a) (Some b) (Some c) xs ys h k = k ∙ ap (λ (x : List (List ℕ)). x ++ ys) h ∙ append_assoc a xs ys

pub same_names : (a b c : Option (List (List ℕ))) (xs : List (List ℕ)) → AppendsAll a b xs → c ≡ b → AppendsAll a c xs
same_names a b c xs h is = subst (λ (x : Option (List (List ℕ))). AppendsAll a x xs) (sym is) h

pub named_as : (a b c : Option (List (List ℕ))) (x y : List ℕ) → AppendsAll a b (x ∷ []) → c ≡ b → x ≡ y → AppendsAll a c (y ∷ [])
named_as a b c x y h is same = subst (λ (n : List ℕ). AppendsAll a c (n ∷ [])) same (same_names a b c (x ∷ []) h is)

-- ---- answers

pub err_is : {T E : Type 0} (x y : E) (r s : Result T E) → r ≡ Err x → s ≡ Err y → r ≡ s → x ≡ y
err_is {T} {E} x y r s r_is s_is same = (let equal : Err x ≡ Err y = sym r_is ∙ same ∙ s_is in cc)
