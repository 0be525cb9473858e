-- A line that is taken and written, and the lines that are left.
use Rattle.std.proofs.Common.{◌≡◌, ◌+◌, ℕ, false, List, [], ◌∷◌, ◌++◌, Option, Result, Ok, Err, OnErr, OnOk, Vec, length, map, vec_len, ap, sym, ◌∙◌, subst, refl}
use Rattle.std.specs.Global.{Global}
use Rattle.std.specs.Prelude.{reverse}
use Rattle.std.proofs.lemmas.List.{length-append, reverse-append, reverse-reverse}
use Rattle.fx_frame_text.specs.declared.forms.Form.{Form}
use Rattle.fx_plain_frames.specs.Games.{Game}
use Rattle.fx_plain_frames.specs.Playing.{IsTold}
use Rattle.fx_plain_runs.specs.Runs.{IsPutPart, IsPutWhole}
use Rattle.fx_plain_runs.specs.declared.manners.Manner.{Manner}
use Rattle.fx_plain_runs.proofs.PlayingLemmas.{IsPlaying, begins, ends, goes_on, stops_before, stops_in}
use Rattle.fx_frame_text.specs.declared.writers.FrameWriter.{FrameWriter}
use Rattle.fx_play_frames.specs.Takings.{IsAt, told_as}
use Rattle.fx_play_frames.specs.declared.taking.Taken.{Taken}
use Rattle.fx_port.specs.Pieces.{Writes, grown}
use Rattle.fx_pulse_model.specs.Frames.{Framed}
use Rattle.fx_script_commands.specs.Requests.{Numbered, line_view}
use Rattle.fx_script_commands.specs.declared.commands.Line.{Line}
use Rattle.fx_play_runs.specs.Lines.{IsLinePart, IsLineWhole, none_written, part_written}

-- of a line that is taken, a part is written
pub part_told : {E : Type 0} (form : Form) (line : Numbered) (before now : Game) (taken : Taken) {text bytes : List ℕ}
    {old new : Option (List ℕ)} (result : Result (Unit {0}) E) → text ≡ bytes → (cost : ℕ)
    → IsTold form line before now (told_as form before.last now taken bytes) cost
    → Writes old new result (told_as form before.last now taken text).text
    → OnErr result (IsLinePart form line before old new)
part_told form line before now taken (Ok done) same cost is writes = tt
part_told form line before now taken {text} {bytes} {old} {new} (Err error) same cost is writes =
    part_written now (told_as form before.last now taken text) cost
    (subst (λ (t : List ℕ). IsTold form line before now (told_as form before.last now taken t) cost) (sym same) is) writes.err

-- the next line stands last where the order is turned
pub next_line : (left rest : List Line) (line : Line) → left ≡ rest ++ (line ∷ [])
    → map line_view (reverse left) ≡ line_view line ∷ map line_view (reverse rest)
next_line left rest line e = ap (map line_view) (ap reverse e ∙ reverse-append rest (line ∷ []))

pub cut_at : {manner : Manner} {warnings : List ℕ} {first now : Game} {all : List Numbered}
    {old mid new : Option (List ℕ)} (left rest : List Line) (line : Line) → left ≡ rest ++ (line ∷ [])
    → manner.summary ≡ false → IsPlaying manner.form warnings first now all (map line_view (reverse left)) old mid
    → IsLinePart manner.form (line_view line) now mid new → IsPutPart manner warnings first all old new
cut_at {manner} {warnings} {first} {now} {all} {old} {mid} {new} left rest line e h so (none_written same) =
    let IsCut : Option (List ℕ) → Type 0 = λ written. IsPutPart manner warnings first all old written in
    subst IsCut (sym same) (stops_before h so)
cut_at {manner} {warnings} {first} {now} {all} {old} {mid} {new} left rest line e h so (part_written next told cost is part) =
    let IsNext : List Numbered → Type 0 = λ lines. IsPlaying manner.form warnings first now all lines old mid in
    stops_in next (line_view line) told h (subst IsNext (next_line left rest line e) so) cost is part

pub nothing_left : (left : List Line) → length left ≡ 0 → left ≡ []
nothing_left [] h = refl
nothing_left (line ∷ left) h = absurd (cc)

-- no line is left
pub none_left : {manner : Manner} {warnings : List ℕ} {first now : Game} {all : List Numbered} {old new : Option (List ℕ)}
    (left : Vec Line Global) → vec_len left ≡ 0 → manner.summary ≡ false
    → IsPlaying manner.form warnings first now all (map line_view (reverse left.items)) old new
    → IsPutWhole manner warnings first all old new
none_left {manner} {warnings} {first} {now} {all} {old} {new} left h long so =
    let IsLast : List Line → Type 0 =
    λ lines. IsPlaying manner.form warnings first now all (map line_view (reverse lines)) old new in
    ends long (subst IsLast (nothing_left left.items (let long : length left.items ≡ vec_len left = cc in long ∙ h)) so)

pub one_less : (left rest : List Line) (line : Line) → left ≡ rest ++ (line ∷ []) → length left ≡ length rest + 1
one_less left rest line e = ap length e ∙ length-append rest (line ∷ [])

-- a writer stands behind the last frame of the game that was written
pub stands_behind : {E : Type 0} (result : Result (Unit {0}) E) (writer : FrameWriter) {behind : Option Framed}
    {mid now : Game} → behind ≡ mid.last → now ≡ mid → OnOk result (IsAt writer behind) → OnOk result (IsAt writer now.last)
stands_behind (Ok done) writer {behind} {mid} {now} last same at =
    subst (λ (o : Option Framed). IsAt writer o) (last ∙ ap (λ (g : Game). g.last) (sym same)) at
stands_behind (Err error) writer last same at = tt
