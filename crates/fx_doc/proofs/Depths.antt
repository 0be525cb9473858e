-- How many elements are open, and steps past a limit.
-- Below the answers on one character.
use Rattle.std.proofs.Common.{◌≡◌, ℕ, ◌<◌, ◌≤◌, length, refl, sym, ◌∙◌, ap, subst, arith, Bool, true, false, ◌&&◌, Option, Some, None}
use lib.Dec.{leb}
use Rattle.fx_base.specs.declared.positions.Position.{Position}
use Rattle.fx_doc_grammar.specs.Machine.{is_deep, is_naming, State, is_long}
use Rattle.fx_doc_drafts.specs.declared.drafts.Word.{Word}
use Rattle.fx_doc_runs.specs.Views.{view, mode_view, IsDeepAt, IsDeepMode, IsLongStep, stack_view}
use Rattle.fx_doc_runs.specs.declared.modes.Mode.{Mode}
use Rattle.fx_doc_runs.specs.declared.modes.Mode.TheVariants as v
use Rattle.fx_doc_runs.specs.declared.modes.Reader.{Reader}
use Rattle.fx_doc_runs.proofs.Stacks.{depth_is}

pub deep_view : (r : Reader) (n : ℕ) (p : Position) (w : Word) → r.mode ≡ v.Naming p w → n ≡ length r.held.stack.items → 128 ≤ n → IsDeepAt (view r) p
deep_view r n p w e g h = (subst (λ (y : Mode). IsDeepMode (mode_view (stack_view r.held.stack.items) y) p) (sym e) refl, subst (λ y. 128 ≤ y) (sym (depth_is r.held.stack.items n g)) h)

and_false : (b : Bool) → (b && false) ≡ false
and_false true = refl
and_false false = refl

shallow : (n : ℕ) → n < 128 → leb 128 n ≡ false
shallow n h = grind arith

pub flat_view : (r : Reader) (n : ℕ) → n ≡ length r.held.stack.items → n < 128 → is_deep (view r) ≡ false
flat_view r n e h = ap (λ y. is_naming (view r).mode && leb 128 y) (depth_is r.held.stack.items n e) ∙ (ap (λ y. is_naming (view r).mode && y) (shallow n h) ∙ and_false (is_naming (view r).mode))

pub long_of : (o : Option State) → IsLongStep o → (s : State) × (o ≡ Some s) × (is_long s ≡ true)
long_of None h = absurd h
long_of (Some s) h = (s, refl, h)
