-- Characters of one line in names, and whether a name is new in a tag.
-- Above the lemmas on calm characters; those on tags and attributes cite these.
use Rattle.std.proofs.Common.{◌≡◌, ℕ, Bool, true, false, ◌&&◌, not, List, [], ◌∷◌, ◌++◌, refl, sym, ◌∙◌, ap, arith}
use Rattle.std.specs.List.{list_all}
use lib.Dec.{eqb, ltb}
use Rattle.fx_doc_grammar.specs.Characters.{class_of, in_name}
use Rattle.fx_doc_grammar.specs.Grammar.{quote_code}
use Rattle.fx_doc_grammar.specs.declared.Quote.{Quote}
use Rattle.fx_doc_grammar.specs.declared.Quote.TheVariants.{Single, Double}
use Rattle.fx_doc_grammar.specs.Machine.{Mode, Spaced, is_fresh}
use Rattle.fx_doc_drafts.specs.Ahead.{is_flat, is_named}
use Rattle.fx_doc_runs.specs.Views.{head_view, mode_view, stack_view}
use Rattle.fx_doc_runs.specs.declared.modes.Head.{Head}
use Rattle.fx_doc_runs.specs.declared.modes.Mode.{Mode as ModeHere}
use Rattle.fx_doc_runs.specs.declared.modes.Mode.TheVariants as v
use Rattle.fx_doc_runs.specs.declared.modes.Reader.{Reader}

both : (a b : Bool) → (a && b) ≡ true → (a ≡ true) × (b ≡ true)
both true b e = (refl, e)
both false b e = Prim.cc

lf_named : in_name (class_of 10) ≡ false
unfolding class_of
lf_named = refl

named_off : (c : ℕ) → in_name (class_of c) ≡ true → c ≡ 10 → ⊥
named_off c e f = absurd (let h : true ≡ false = sym e ∙ (ap (λ y. in_name (class_of y)) f ∙ lf_named) in cc)

not_eqb : (c : ℕ) → (c ≡ 10 → ⊥) → not (eqb c 10) ≡ true
not_eqb c n = by (eqb c 10) refl
  where
    by : (b : Bool) → eqb c 10 ≡ b → not b ≡ true
    by true e = absurd (n (grind (arith, e)))
    by false e = refl

pub named_flat : (c : ℕ) → is_named c ≡ true → is_flat c ≡ true
named_flat c e = let a = both (ltb c 128) (in_name (class_of c)) e in ap (λ b. b && not (eqb c 10)) a.0 ∙ not_eqb c (named_off c a.1)

pub quote_flat : (u : Quote) → is_flat (quote_code u) ≡ true
quote_flat Single = refl
quote_flat Double = refl

pub all_flat : (p : ℕ → Bool) → ((c : ℕ) → p c ≡ true → is_flat c ≡ true) → (cs rest : List ℕ) → list_all p cs ≡ true → list_all is_flat rest ≡ true → list_all is_flat (cs ++ rest) ≡ true
all_flat p f [] rest e g = g
all_flat p f (c ∷ cs) rest e g = let a = both (p c) (list_all p cs) e in ap (λ b. b && list_all is_flat (cs ++ rest)) (f c a.0) ∙ all_flat p f cs rest a.1 g

-- whether a name is fresh in the tag at hand
fresh_in : List ℕ → Mode → Bool
fresh_in k (Spaced h) = is_fresh k h
fresh_in k m = true

pub same_fresh : (s : Reader) (k : List ℕ) (m : ModeHere) (a b : Head) → m ≡ v.Spaced a → m ≡ v.Spaced b → is_fresh k (head_view b) ≡ is_fresh k (head_view a)
unfolding fresh_in
same_fresh s k m a b e f = ap (λ (y : ModeHere). fresh_in k (mode_view (stack_view s.held.stack.items) y)) (sym f ∙ e)
