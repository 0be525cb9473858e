-- A word that isn't accepted ends the reading of the words.
use Rattle.std.proofs.Common.{◌≡◌, ℕ, suc, ◌<◌, List, [], ◌∷◌, ◌++◌, Some, None, String, drop, get_or, length, take, refl, ap, sym, ◌∙◌, drop-cons, string_bytes}
use Rattle.std.specs.Global.{Global}
use Rattle.std.specs.List.{fold}
use Rattle.std.proofs.lemmas.List.{map-append, take-append-drop}
use Rattle.std.proofs.lemmas.List.Sums.{fold-append}
use Rattle.fx_words.specs.Asking.{Word, no_arguments}
use Rattle.fx_words.specs.Reading.{State, ended, next, read, step, stepped, texts}
use Rattle.fx_words.specs.declared.sorts.Awaits.TheVariants as awaits

none_left : (words : List Word) → fold next None words ≡ None
none_left [] = refl
none_left (w ∷ ws) = none_left ws

cut : (words : List (String Global)) (i : ℕ) (w : String Global) → i < length words → w ≡ get_or words i w
    → words ≡ take i words ++ (w ∷ drop (suc i) words)
cut words i w within is =
    sym (take-append-drop i words)
    ∙ ap (λ rest. take i words ++ rest) (drop-cons words i w within ∙ ap (λ v. v ∷ drop (suc i) words) (sym is))

pub none_is_read : (words : List (String Global)) (i : ℕ) (w : String Global) (s : State) → i < length words
    → w ≡ get_or words i w → read (texts (take i words)) ≡ Some s
    → step s.arguments (string_bytes w) s.awaits ≡ None → None ≡ ended (read (texts words))
none_is_read words i w s within is front none =
    let first = stepped no_arguments awaits.Any in
    let rest = texts (drop (suc i) words) in
    let parts : texts words ≡ texts (take i words) ++ (string_bytes w ∷ rest) =
    ap texts (cut words i w within is) ∙ map-append string_bytes (take i words) (w ∷ drop (suc i) words) in
    let whole : read (texts words) ≡ None =
    ap read parts ∙ fold-append next first (texts (take i words)) (string_bytes w ∷ rest)
    ∙ ap (λ t. fold next (next t (string_bytes w)) rest) front ∙ ap (λ t. fold next t rest) none ∙ none_left rest in
    ap ended (sym whole)
