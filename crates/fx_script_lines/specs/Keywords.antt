-- The first words of lines.
use Rattle.std.specs.Prelude.{ℕ, List, [], ◌∷◌, ◌++◌, Option, codes}
use Rattle.std.specs.List.{find}
use Rattle.std.specs.Option.{option_map}
use Rattle.std.specs.Str.{bytes_eq}
use Rattle.fx_script_lines.specs.declared.keywords.Keyword.{Keyword}
use Rattle.fx_script_lines.specs.declared.keywords.Keyword.TheVariants as about
use Rattle.fx_script_lines.specs.declared.keywords.PropertyWord.TheVariants as property
use Rattle.fx_script_lines.specs.declared.keywords.BondWord.TheVariants as bond
use Rattle.fx_script_lines.specs.declared.keywords.ListenerWord.TheVariants as listener
use Rattle.fx_script_lines.specs.declared.keywords.TreeWord.TheVariants as tree
use Rattle.fx_script_lines.specs.declared.keywords.LookWord.TheVariants as look
use Rattle.fx_script_lines.specs.declared.keywords.NodeWord.TheVariants as node
use Rattle.fx_script_lines.specs.declared.keywords.InputWord.TheVariants as input
use Rattle.fx_script_lines.specs.declared.keywords.FocusWord.TheVariants as focus
use Rattle.fx_script_lines.specs.declared.keywords.FrameWord.TheVariants as frame
use Rattle.fx_script_lines.specs.declared.keywords.TimeWord.TheVariants as time

abbrev pub three_letters : List (List ℕ × Keyword)
three_letters = (codes "set", about.Property property.Set)
    ∷ (codes "get", about.Property property.Get)
    ∷ (codes "new", about.Tree tree.New)
    ∷ (codes "key", about.Input input.Key)
    ∷ (codes "tab", about.Focus focus.Tab)
    ∷ (codes "say", about.Frame frame.Say)
    ∷ []

abbrev pub four_letters : List (List ℕ × Keyword)
four_letters = (codes "prop", about.Property property.Prop)
    ∷ (codes "pair", about.Bond bond.Pair)
    ∷ (codes "drop", about.Tree tree.Drop)
    ∷ (codes "move", about.Input input.Move)
    ∷ (codes "play", about.Time time.Play)
    ∷ (codes "stop", about.Time time.Stop)
    ∷ (codes "tick", about.Time time.Tick)
    ∷ []

abbrev pub five_letters : List (List ℕ × Keyword)
five_letters = (codes "owner", about.Bond bond.Owner)
    ∷ (codes "watch", about.Listener listener.Watch)
    ∷ (codes "class", about.Look look.Class)
    ∷ (codes "style", about.Look look.Style)
    ∷ (codes "press", about.Input input.Press)
    ∷ (codes "focus", about.Focus focus.Focus)
    ∷ (codes "pulse", about.Frame frame.Pulse)
    ∷ []

abbrev pub six_letters : List (List ℕ × Keyword)
six_letters = (codes "unbind", about.Property property.Unbind)
    ∷ (codes "unpair", about.Bond bond.Unpair)
    ∷ (codes "listen", about.Listener listener.Listen)
    ∷ (codes "attach", about.Tree tree.Attach)
    ∷ (codes "detach", about.Tree tree.Detach)
    ∷ (codes "pseudo", about.Look look.Pseudo)
    ∷ (codes "handle", about.Node node.Handle)
    ∷ (codes "filter", about.Node node.Filter)
    ∷ (codes "resize", about.Frame frame.Resize)
    ∷ []

abbrev pub seven_letters : List (List ℕ × Keyword)
seven_letters = (codes "release", about.Bond bond.Release)
    ∷ (codes "unwatch", about.Listener listener.Unwatch)
    ∷ (codes "unclass", about.Look look.Unclass)
    ∷ (codes "explain", about.Node node.Explain)
    ∷ (codes "backtab", about.Focus focus.Backtab)
    ∷ (codes "consume", about.Frame frame.Consume)
    ∷ []

abbrev pub eight_letters : List (List ℕ × Keyword)
eight_letters = (codes "unlisten", about.Listener listener.Unlisten)
    ∷ (codes "timeline", about.Time time.Timeline)
    ∷ (codes "keyframe", about.Time time.Keyframe)
    ∷ []

abbrev pub more_letters : List (List ℕ × Keyword)
more_letters = (codes "constrain", about.Node node.Constrain)
    ∷ (codes "release-button", about.Input input.ReleaseButton)
    ∷ []

-- the first words of lines, by their length
unfoldable pub keywords : List (List ℕ × Keyword)
keywords =
    three_letters ++ (four_letters ++ (five_letters ++ (six_letters ++ (seven_letters ++ (eight_letters
    ++ more_letters)))))

-- the keyword of the first row with this word
abbrev pub keyword_at : List (List ℕ × Keyword) → List ℕ → Option Keyword
keyword_at table word = option_map (λ row. row.1) (find (λ row. bytes_eq row.0 word) table)

unfoldable pub keyword_of : List ℕ → Option Keyword
keyword_of word = keyword_at keywords word
