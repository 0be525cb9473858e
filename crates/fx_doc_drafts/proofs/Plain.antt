-- A text may be cut behind a byte of ASCII.
-- The answer on a byte in front cites these.
use Rattle.std.proofs.Common.{◌≡◌, ℕ, Option, Some, None, ◌<◌, List, [], ◌∷◌, ◌++◌, refl, sym, ◌∙◌, ap}
use Rattle.std.proofs.lemmas.Bool.{lt-ltb}
use Rattle.std.specs.Prelude.{IfNone}
use Rattle.std.proofs.lemmas.Str.{IsCharBoundary-at_seam, IsUtf8-past_char}
use Rattle.std.specs.Str.{IsUtf8, IsCharBoundary}
use lib.Utf8.{encode}

ascii_encode : (c : ℕ) → c < 128 → encode c ≡ c ∷ []
unfolding encode
ascii_encode c h = rw (lt-ltb c 128 h) refl

pub cut_behind : (text behind : List ℕ) (byte : ℕ) → byte < 128 → IsUtf8 text → text ≡ byte ∷ behind → IsCharBoundary text 1
cut_behind text behind byte h u e =
    IsCharBoundary-at_seam text (byte ∷ []) behind e (IsUtf8-past_char text behind byte u (e ∙ ap (λ y. y ++ behind) (sym (ascii_encode byte h))))

pub if_none : {X : Type 0} (o : Option X) (P : Type 0) → P → IfNone o P
if_none None P p = p
if_none (Some x) P p = tt
