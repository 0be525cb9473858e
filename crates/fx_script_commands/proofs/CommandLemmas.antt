-- Lines whose first word is `action`.
use Rattle.std.proofs.Common.{◌≡◌, ℕ, Bool, true, false, if◌then◌else◌, inl, inr, List, Option, None, Some, codes, refl, ap, sym, ◌∙◌}
use Rattle.std.specs.Option.{option_and_then, option_map}
use Rattle.std.specs.Str.{bytes_eq}
use Rattle.std.proofs.lemmas.Slice.Eq.{bytes_eq-Decides}
use Rattle.fx_script_lines.specs.Forms.{instruction_behind}
use Rattle.fx_script_lines.specs.Keywords.{keyword_of, keywords}
use Rattle.fx_script_lines.specs.Taking.{alone, behind_word, path, word, word_in}
use Rattle.fx_script_lines.specs.declared.instructions.Instruction.{Instruction}
use Rattle.fx_script_lines.specs.declared.shapes.Shape.TheVariants.{Identifier}
use Rattle.fx_script_commands.specs.Commands.{IsBadLine, action_name, binding, command_behind, expression_in, is_barred, or_bad, request_behind, request_of}
use Rattle.fx_script_commands.specs.Requests.{Expression, Numbered, Request, asks, bad, binds, command_step, command_view, line_step}
use Rattle.fx_script_commands.specs.declared.commands.Command.TheVariants as v
use Rattle.fx_script_commands.specs.declared.commands.Command.TheOpen as o
use Rattle.fx_script_commands.specs.declared.commands.Command.TheFolds as f
use Rattle.fx_script_commands.specs.declared.standing.Standing.{Standing}
use Rattle.fx_script_commands.specs.declared.standing.Standing.TheVariants.{Outside}

of_action : (behind : List ℕ) → request_behind Outside (codes "action") behind ≡ bad
unfolding request_behind is_barred instruction_behind keyword_of keywords
of_action behind = refl

-- a line that begins with `action` and goes on with no name alone opens no action, and is none by itself
pub bad_action : (text : List ℕ) → true ≡ bytes_eq (word_in text) (codes "action")
    → alone (word Identifier) (behind_word text) ≡ None
    → (action_name text ≡ None) × (bad ≡ request_of Outside text)
unfolding action_name
bad_action text begins other =
    let first : word_in text ≡ codes "action" = (bytes_eq-Decides (word_in text) (codes "action")).0 (sym begins) in
    (rw (← begins, other) refl, sym (rw first (of_action (behind_word text))))

-- what contracts see of a bad line
pub bad_seen : command_view v.Bad ≡ bad
bad_seen = ap command_view (sym v.rolls-Bad) ∙ f.fold-roll-Command Request Numbered command_step line_step o.Bad

-- what a line of a form asks for is never that it is bad
bound_of : (name : List (List ℕ)) (o : Option Expression) → option_map (binds name) o ≡ Some bad → ⊥
bound_of name None e = cc
bound_of name (Some x) e = let h : binds name x ≡ bad = cc in cc

asked_of : (o : Option Instruction) → option_map asks o ≡ Some bad → ⊥
asked_of None e = cc
asked_of (Some i) e = let h : asks i ≡ bad = cc in cc

behind_name : (o : Option (List (List ℕ) × List ℕ))
    → option_and_then (λ name. option_map (binds name.0) (expression_in name.1)) o ≡ Some bad → ⊥
behind_name None e = cc
behind_name (Some name) e = bound_of name.0 (expression_in name.1) e

formed : (first text : List ℕ) → command_behind first text ≡ Some bad → ⊥
formed first text e = by_word (bytes_eq first (codes "bind")) e
  where
    by_word : (b : Bool) → (if b then binding text else option_map asks (instruction_behind first text)) ≡ Some bad → ⊥
    by_word true h = behind_name (path text) h
    by_word false h = asked_of (instruction_behind first text) h

pub bad_by_a_cause : (standing : Standing) (text : List ℕ) → request_of standing text ≡ bad → IsBadLine standing text
unfolding request_behind
bad_by_a_cause standing text e = by_bar (is_barred standing (word_in text)) refl e
  where
    by_form : (o : Option Request) → command_behind (word_in text) (behind_word text) ≡ o → or_bad o ≡ bad → IsBadLine standing text
    by_form None h g = inr h
    by_form (Some r) h g = absurd (formed (word_in text) (behind_word text) (h ∙ ap (λ (x : Request). Some x) g))

    by_bar : (b : Bool) → is_barred standing (word_in text) ≡ b
        → (if b then bad else or_bad (command_behind (word_in text) (behind_word text))) ≡ bad → IsBadLine standing text
    by_bar true h g = inl h
    by_bar false h g = by_form (command_behind (word_in text) (behind_word text)) refl g

pub caused_bad : (standing : Standing) (text : List ℕ) → IsBadLine standing text → request_of standing text ≡ bad
unfolding request_behind
caused_bad standing text (inl h) = rw h refl
caused_bad standing text (inr h) = rw h (same_bad (is_barred standing (word_in text)))
  where
    same_bad : (b : Bool) → (if b then bad else bad) ≡ bad
    same_bad true = refl
    same_bad false = refl
