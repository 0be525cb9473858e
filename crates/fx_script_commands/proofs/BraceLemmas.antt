-- A sign in front of a text or at its end, and the spaces at its end.
use Rattle.std.proofs.Common.{◌≡◌, ◌≢◌, inl, inr, ℕ, Option, Some, None, List, [], ◌∷◌, ◌++◌, Bor, refl, ap, sym, ◌∙◌, reverse}
use Rattle.std.specs.Option.{MatchOption, option_map}
use Rattle.std.proofs.lemmas.List.{reverse-append, reverse-reverse}
use Rattle.std.proofs.lemmas.Bool.Decides.{eqb_tells}
use Rattle.fx_script_lines.proofs.TakingLemmas.{no_space, space_step}
use Rattle.fx_script_commands.specs.Braces.{before_sign, before_spaces, behind_sign}

abbrev seen : Option (Bor (List ℕ)) → Option (List ℕ)
seen r = option_map (λ x. x.now) r

there : (sign : ℕ) (rest : List ℕ) → behind_sign sign (sign ∷ rest) ≡ Some rest
there sign rest = elim (eqb_tells sign sign) [
  | inl h ↦ rw h.0 refl
  | inr h ↦ absurd (h.1 refl)
]

nowhere : (sign : ℕ) (text : List ℕ) → ((rest : List ℕ) → text ≢ sign ∷ rest) → behind_sign sign text ≡ None
nowhere sign [] none = refl
nowhere sign (c ∷ cs) none = elim (eqb_tells c sign) [
  | inl h ↦ absurd (none cs (ap (λ (d : ℕ). d ∷ cs) h.1))
  | inr h ↦ rw h.0 refl
]

-- the answer of `strip_prefix`
pub behind_sign_is : (sign : ℕ) (text : List ℕ) (r : Option (Bor (List ℕ)))
    → MatchOption r ((rest : List ℕ) → text ≢ sign ∷ rest) (λ x. text ≡ sign ∷ x.now)
    → option_map (λ x. x.now) r ≡ behind_sign sign text
behind_sign_is sign text None none = sym (nowhere sign text none)
behind_sign_is sign text (Some x) is = sym (ap (behind_sign sign) is ∙ there sign x.now)

turned : (front : List ℕ) (c : ℕ) → reverse (front ++ (c ∷ [])) ≡ c ∷ reverse front
turned front c = reverse-append front (c ∷ [])

-- no character of this kind at the end
turned_none : (sign : ℕ) (text : List ℕ) → ((front : List ℕ) → text ≢ front ++ (sign ∷ []))
    → (rest : List ℕ) → reverse text ≢ sign ∷ rest
turned_none sign text none rest e =
    none (reverse rest) (sym (reverse-reverse text) ∙ ap reverse e ∙ reverse-append (sign ∷ []) rest)

-- the answer of `strip_suffix`
pub before_sign_is : (sign : ℕ) (text : List ℕ) (r : Option (Bor (List ℕ)))
    → MatchOption r ((front : List ℕ) → text ≢ front ++ (sign ∷ [])) (λ x. text ≡ x.now ++ (sign ∷ []))
    → option_map (λ x. x.now) r ≡ before_sign sign text
before_sign_is sign text None none =
    sym (ap (option_map reverse) (nowhere sign (reverse text) (turned_none sign text none)))
before_sign_is sign text (Some x) is =
    sym (ap (λ (l : List ℕ). option_map reverse (behind_sign sign l)) (ap reverse is ∙ turned x.now sign)
    ∙ ap (option_map reverse) (there sign (reverse x.now)) ∙ ap (λ (l : List ℕ). Some l) (reverse-reverse x.now))

-- one space at the end
pub last_space : (text front : List ℕ) → text ≡ front ++ (32 ∷ []) → before_spaces text ≡ before_spaces front
last_space text front e =
    ap reverse (space_step (reverse text) (reverse front) (ap reverse e ∙ turned front 32))

pub no_last_space : (text : List ℕ) → ((front : List ℕ) → text ≢ front ++ (32 ∷ [])) → before_spaces text ≡ text
no_last_space text none = ap reverse (no_space (reverse text) (turned_none 32 text none)) ∙ reverse-reverse text
