-- What a line asks for, by its first word and what is behind that and one space.
use Rattle.std.specs.Prelude.{ℕ, List, Option}
use Rattle.std.specs.Option.{option_and_then, option_map}
use Rattle.fx_script_lines.specs.Taking as taking
use Rattle.fx_script_lines.specs.Keywords.{keyword_of}
use Rattle.fx_script_lines.specs.declared.instructions.Instruction.{Instruction}
use Rattle.fx_script_lines.specs.declared.instructions.Instruction.TheVariants as line
use Rattle.fx_script_lines.specs.declared.shapes.Shape.TheVariants.{Any, Identifier, Ident, Integer, Place, Count, Notice, Kind, Switch}
use Rattle.fx_script_lines.specs.declared.keywords.Keyword.{Keyword}
use Rattle.fx_script_lines.specs.declared.keywords.Keyword.TheVariants as about
use Rattle.fx_script_lines.specs.declared.keywords.PropertyWord.{PropertyWord}
use Rattle.fx_script_lines.specs.declared.keywords.PropertyWord.TheVariants as property_word
use Rattle.fx_script_lines.specs.declared.keywords.BondWord.{BondWord}
use Rattle.fx_script_lines.specs.declared.keywords.BondWord.TheVariants as bond_word
use Rattle.fx_script_lines.specs.declared.keywords.ListenerWord.{ListenerWord}
use Rattle.fx_script_lines.specs.declared.keywords.ListenerWord.TheVariants as listener_word
use Rattle.fx_script_lines.specs.declared.keywords.TreeWord.{TreeWord}
use Rattle.fx_script_lines.specs.declared.keywords.TreeWord.TheVariants as tree_word
use Rattle.fx_script_lines.specs.declared.keywords.LookWord.{LookWord}
use Rattle.fx_script_lines.specs.declared.keywords.LookWord.TheVariants as look_word
use Rattle.fx_script_lines.specs.declared.keywords.NodeWord.{NodeWord}
use Rattle.fx_script_lines.specs.declared.keywords.NodeWord.TheVariants as node_word
use Rattle.fx_script_lines.specs.declared.keywords.InputWord.{InputWord}
use Rattle.fx_script_lines.specs.declared.keywords.InputWord.TheVariants as input_word
use Rattle.fx_script_lines.specs.declared.keywords.FocusWord.{FocusWord}
use Rattle.fx_script_lines.specs.declared.keywords.FocusWord.TheVariants as focus_word
use Rattle.fx_script_lines.specs.declared.keywords.FrameWord.{FrameWord}
use Rattle.fx_script_lines.specs.declared.keywords.FrameWord.TheVariants as frame_word
use Rattle.fx_script_lines.specs.declared.keywords.TimeWord.{TimeWord}
use Rattle.fx_script_lines.specs.declared.keywords.TimeWord.TheVariants as time_word

unfoldable pub property : PropertyWord → List ℕ → Option Instruction
property property_word.Prop text = option_map (λ a. line.Prop a.0 a.1 a.2)
    (taking.triple (taking.word Identifier) (taking.word Kind) taking.rest text)
property property_word.Set text = option_map (λ a. line.Set a.0 a.1) (taking.pair taking.path taking.rest text)
property property_word.Get text = option_map line.Get (taking.alone taking.path text)
property property_word.Unbind text = option_map line.Unbind (taking.alone taking.path text)

unfoldable pub bond : BondWord → List ℕ → Option Instruction
bond bond_word.Pair text = option_map (λ a. line.Pair a.0 a.1) (taking.pair taking.path taking.path text)
bond bond_word.Unpair text = option_map (λ a. line.Unpair a.0 a.1) (taking.pair taking.path taking.path text)
bond bond_word.Owner text = option_map line.Owner (taking.alone (taking.word Identifier) text)
bond bond_word.Release text = option_map line.Release (taking.alone (taking.word Identifier) text)

unfoldable pub listener : ListenerWord → List ℕ → Option Instruction
listener listener_word.Listen text = option_map (λ a. line.Listen a.0 a.1 a.2)
    (taking.triple (taking.word Notice) taking.path taking.label text)
listener listener_word.Unlisten text = option_map (λ a. line.Unlisten a.0 a.1 a.2)
    (taking.triple (taking.word Notice) taking.path taking.label text)
listener listener_word.Watch text = option_map (λ a. line.Watch a.0 a.1 a.2 a.3)
    (taking.quadruple (taking.word Notice) taking.path (taking.word Identifier) taking.label text)
listener listener_word.Unwatch text = option_map (λ a. line.Unwatch a.0 a.1 a.2 a.3)
    (taking.quadruple (taking.word Notice) taking.path (taking.word Identifier) taking.label text)

unfoldable pub tree : TreeWord → List ℕ → Option Instruction
tree tree_word.New text = option_map (λ a. line.New a.0 a.1)
    (taking.pair (taking.word Any) (taking.word Identifier) text)
tree tree_word.Attach text = option_map (λ a. line.Attach a.0 a.1 a.2)
    (taking.triple taking.path taking.path (taking.word Place) text)
tree tree_word.Detach text = option_map line.Detach (taking.alone taking.path text)
tree tree_word.Drop text = option_map line.Drop (taking.alone taking.path text)

unfoldable pub look : LookWord → List ℕ → Option Instruction
look look_word.Class text = option_map (λ a. line.Class a.0 a.1) (taking.pair taking.path (taking.word Any) text)
look look_word.Unclass text = option_map (λ a. line.Unclass a.0 a.1) (taking.pair taking.path (taking.word Any) text)
look look_word.Style text = option_map (λ a. line.Style a.0 a.1) (taking.pair taking.path taking.rest text)
look look_word.Pseudo text = option_map (λ a. line.Pseudo a.0 a.1 a.2)
    (taking.triple taking.path (taking.word Any) (taking.word Switch) text)

unfoldable pub node : NodeWord → List ℕ → Option Instruction
node node_word.Constrain text = option_map (λ a. line.Constrain a.0 a.1 a.2)
    (taking.triple taking.path (taking.word Any) taking.rest text)
node node_word.Explain text = option_map (λ a. line.Explain a.0 a.1) (taking.pair taking.path (taking.word Ident) text)
node node_word.Handle text = option_map (λ a. line.Handle a.0 a.1 a.2)
    (taking.triple taking.path (taking.word Any) (taking.word Identifier) text)
node node_word.Filter text = option_map (λ a. line.Filter a.0 a.1 a.2)
    (taking.triple taking.path (taking.word Any) (taking.word Identifier) text)

unfoldable pub input : InputWord → List ℕ → Option Instruction
input input_word.Move text = option_map (λ a. line.Move a.0 a.1)
    (taking.pair (taking.word Integer) (taking.word Integer) text)
input input_word.Press text = taking.ended line.Press text
input input_word.ReleaseButton text = taking.ended line.ReleaseButton text
input input_word.Key text = option_map line.Key (taking.alone (taking.word Any) text)

unfoldable pub focus : FocusWord → List ℕ → Option Instruction
focus focus_word.Focus text = option_map line.Focus (taking.alone taking.path text)
focus focus_word.Tab text = taking.ended line.Tab text
focus focus_word.Backtab text = taking.ended line.Backtab text

unfoldable pub frame : FrameWord → List ℕ → Option Instruction
frame frame_word.Resize text = option_map (λ a. line.Resize a.0 a.1)
    (taking.pair (taking.word Integer) (taking.word Integer) text)
frame frame_word.Pulse text = taking.ended line.Pulse text
frame frame_word.Say text = option_map line.Say (taking.alone taking.rest text)
frame frame_word.Consume text = taking.ended line.Consume text

unfoldable pub time : TimeWord → List ℕ → Option Instruction
time time_word.Timeline text = option_map (λ a. line.Timeline a.0 a.1 a.2)
    (taking.triple (taking.word Identifier) (taking.word Count) taking.reverse text)
time time_word.Keyframe text = option_map (λ a. line.Keyframe a.0 a.1 a.2 a.3)
    (taking.quadruple (taking.word Identifier) (taking.word Integer) taking.path taking.rest text)
time time_word.Play text = option_map line.Play (taking.alone (taking.word Identifier) text)
time time_word.Stop text = option_map line.Stop (taking.alone (taking.word Identifier) text)
time time_word.Tick text = option_map line.Tick (taking.alone (taking.word Integer) text)

-- what a line with this first word asks for
abbrev pub form : Keyword → List ℕ → Option Instruction
form (about.Property keyword) text = property keyword text
form (about.Bond keyword) text = bond keyword text
form (about.Listener keyword) text = listener keyword text
form (about.Tree keyword) text = tree keyword text
form (about.Look keyword) text = look keyword text
form (about.Node keyword) text = node keyword text
form (about.Input keyword) text = input keyword text
form (about.Focus keyword) text = focus keyword text
form (about.Frame keyword) text = frame keyword text
form (about.Time keyword) text = time keyword text

-- by the first word and what is behind it
unfoldable pub instruction_behind : List ℕ → List ℕ → Option Instruction
instruction_behind first text = option_and_then (λ keyword. form keyword text) (keyword_of first)

-- what a line asks for, where its form has words, paths and texts alone
abbrev pub instruction_of : List ℕ → Option Instruction
instruction_of text = instruction_behind (taking.word_in text) (taking.behind_word text)
