-- Runs that the reader takes, over its own values.
-- Above the lemmas on runs; the reader's answers cite these.
use Rattle.std.proofs.Common.{◌≡◌, ℕ, ◌+◌, ◌≤◌, Bool, true, false, List, [], ◌++◌, String, Global, length, sym, ◌∙◌, ap, subst}
use lib.Dec.{eqb}
use Rattle.std.specs.List.{list_all}
use Rattle.std.specs.String.{string_bytes}
use Rattle.fx_base.specs.declared.positions.Position.{Position}
use Rattle.fx_doc_grammar.specs.Grammar.{Level as LevelView}
use Rattle.fx_doc_grammar.specs.Machine.{State, Inside, is_open}
use Rattle.fx_doc_grammar.proofs.Marks.{as_state}
use Rattle.fx_text.specs.Classes.{is_white}
use Rattle.fx_base.specs.Positions.{after_all}
use Rattle.fx_doc_drafts.specs.Ahead.{is_text, is_calm}
use Rattle.fx_doc_runs.specs.Reached.{Calm, Took, TookFlat, IsPast, IsRun, run_level}
use Rattle.fx_doc_runs.specs.Views.{view, head_view, held_view, level_view, stack_view, mode_view, inside_view}
use Rattle.fx_doc_drafts.specs.declared.drafts.Word.{Word}
use Rattle.fx_doc_runs.specs.declared.modes.Head.{Head}
use Rattle.fx_doc_runs.specs.declared.modes.Held.{Held}
use Rattle.fx_doc_runs.specs.declared.modes.Mode.{Mode}
use Rattle.fx_doc_runs.specs.declared.modes.Mode.TheVariants as v
use Rattle.fx_doc_runs.specs.declared.modes.Reader.{Reader}
use Rattle.fx_doc_runs.proofs.Flowing.{white_took, text_took, comment_took, instruction_took, spaced_calm}
use Rattle.fx_doc_runs.proofs.Shorts.{not_past, level_short}

pub outside_took : (x : Held) (text rest : List ℕ) (p q : Position) → is_open (stack_view x.stack.items) ≡ false
    → IsPast is_white text p rest q → Took text p (inside_view x) rest q (inside_view x)
outside_took x text rest p q o r = white_took (held_view x) text rest p q o (not_past x.level.run.count
    x.level.run.short) r

pub inside_took : (x : Held) (l : LevelView) (text part rest : List ℕ) (p q : Position)
    → is_open (stack_view x.stack.items) ≡ true → IsRun is_text text part rest → x.level.run.count + length part ≤
    4096 → l ≡ run_level p part (level_view x.level) → q ≡ after_all p part
    → Took text p (inside_view x) rest q (as_state (record {
      imports = x.imports.items;
      stack = stack_view
          x.stack.items;
      level = l;
    }) Inside)
inside_took x l text part rest p q o r n w e = text_took (held_view x) l text part rest p q o r n w e

-- the reader in a mode
abbrev pub in_mode : Reader → Mode → State
in_mode r m = as_state (held_view r.held) (mode_view (stack_view r.held.stack.items) m)

pub comment_taken : (r : Reader) (text part rest : List ℕ) (p : Position) → r.mode ≡ v.Commented → IsRun (is_calm 45 45) text part rest → TookFlat text p (view r) rest (view r)
comment_taken r text part rest p e k = subst (λ (m : Mode). TookFlat text p (in_mode r m) rest (in_mode r m)) (sym e) (comment_took (held_view r.held) text part rest p (level_short r) k)

pub instruction_taken : (r : Reader) (n : Word) (x y : String Global) (text part rest : List ℕ) (p : Position) → r.mode ≡ v.Instructed n x → IsRun (is_calm 63 63) text part rest → string_bytes y ≡ string_bytes x ++ part
    → TookFlat text p (view r) rest (in_mode r (v.Instructed n y))
instruction_taken r n x y text part rest p e k w =
    subst (λ (m : Mode). TookFlat text p (in_mode r m) rest (in_mode r (v.Instructed n y))) (sym e)
    (instruction_took (held_view r.held) (string_bytes n.text) (string_bytes x) (string_bytes y) text part rest p (level_short r) k w)

pub spaced_kept : (r : Reader) (head : Head) (part : List ℕ) (p : Position) → r.mode ≡ v.Spaced head
    → list_all is_white part ≡ true → Calm p (view r) part (view r)
spaced_kept r head part p e g = subst (λ (m : Mode). Calm p (in_mode r m) part (in_mode r m)) (sym e) (spaced_calm
    (held_view r.held) (head_view head) part p (level_short r) g)

-- what holds of the reader in a mode, where that mode was put in
pub turned : (P : State → Type 0) (x : Held) (m n : Mode) → n ≡ m
    → P (as_state (held_view x) (mode_view (stack_view x.stack.items) m))
    → P (as_state (held_view x) (mode_view (stack_view x.stack.items) n))
turned P x m n e t = subst (λ (y : Mode). P (as_state (held_view x) (mode_view (stack_view x.stack.items) y))) (sym e) t

-- a part that code finds not to be empty
pub filled : (gap : List ℕ) (b : Bool) → b ≡ eqb (length gap) 0 → b ≡ false → gap ≡ [] → ⊥
filled gap b e f g = let h : false ≡ true = sym f ∙ (e ∙ ap (λ (y : List ℕ). eqb (length y) 0) g) in cc
