-- Joined and cut texts are texts.
use Rattle.std.proofs.Common.{◌≡◌, ◌≤◌, ℕ, true, List, [], ◌∷◌, ◌++◌, zero, suc, length, take, refl, arith}
use Rattle.std.specs.Str.{chars, IsUtf8}
use Rattle.std.proofs.lemmas.List.{length-take}
use Rattle.std.proofs.lemmas.Str.{chars-encodes, scalars-chars}
use Rattle.std.proofs.lemmas.Bool.{and_parts, and_from}
use lib.Utf8.{scalar, scalars, encodes}

scalars-append : (cs ds : List ℕ) → scalars cs ≡ true → scalars ds ≡ true → scalars (cs ++ ds) ≡ true
scalars-append [] ds d e = e
scalars-append (c ∷ cs) ds d e =
    let both = and_parts (scalar c) (scalars cs) d in
    and_from (scalar c) (scalars (cs ++ ds)) both.0 (scalars-append cs ds both.1 e)

scalars-take : (n : ℕ) (cs : List ℕ) → scalars cs ≡ true → scalars (take n cs) ≡ true
scalars-take zero cs d = refl
scalars-take (suc n) [] d = refl
scalars-take (suc n) (c ∷ cs) d =
    let both = and_parts (scalar c) (scalars cs) d in
    and_from (scalar c) (scalars (take n cs)) both.0 (scalars-take n cs both.1)

-- a text of at most so many characters of two others
pub cut_short : (n : ℕ) (s t : List ℕ) → IsUtf8 s → IsUtf8 t → length (chars (encodes (take n (chars s ++ chars t)))) ≤ n
cut_short n s t p q =
    let all : scalars (take n (chars s ++ chars t)) ≡ true = scalars-take n (chars s ++ chars t) (scalars-append (chars s) (chars t) (scalars-chars s p) (scalars-chars t q)) in
    rw (chars-encodes (take n (chars s ++ chars t)) all) (let long = length-take n (chars s ++ chars t) in omega arith)
