-- Lines that were played so far, and those that are left.
use Rattle.std.proofs.Common.{◌≡◌, ℕ, ◌+◌, List, [], ◌∷◌, ◌++◌, append_assoc, append-nil, ap, sym, ◌∙◌, subst, refl}
use Rattle.fx_frame_text.specs.declared.forms.Form.{Form}
use Rattle.fx_plain_frames.specs.Games.{Game}
use Rattle.fx_plain_frames.specs.Playing.{IsPlayed, IsTold, no_line, one_line}
use Rattle.fx_plain_steps.specs.Told.{Told, texts_of}
use Rattle.fx_script_commands.specs.Requests.{Numbered}

-- whatever lines come next, they go on from this game
abbrev pub IsUnderway : Form → Game → Game → List Numbered → List Told → Type 0
IsUnderway form first now done tolds =
    (more : List Numbered) (rest : List Told) → IsPlayed form now more rest
    → IsPlayed form first (done ++ more) (tolds ++ rest)

pub not_begun : (form : Form) (first : Game) → IsUnderway form first first [] []
not_begun form first more rest played = played

-- one line more
pub line_done : {form : Form} {first now next : Game} (done : List Numbered) (tolds : List Told) (line : Numbered) (told : Told)
    → IsUnderway form first now done tolds → (cost : ℕ) → IsTold form line now next told cost
    → IsUnderway form first next (done ++ line ∷ []) (tolds ++ told ∷ [])
line_done {form} {first} {now} {next} done tolds line told under cost is more rest played =
    rw (append_assoc done (line ∷ []) more, append_assoc tolds (told ∷ []) rest)
    (under (line ∷ more) (told ∷ rest) (one_line now next line more told rest cost is played))

-- the lines so far were played
pub done_played : {form : Form} {first now : Game} (done : List Numbered) (tolds : List Told)
    → IsUnderway form first now done tolds → IsPlayed form first done tolds
done_played {form} {first} {now} done tolds under =
    let all = under [] [] (no_line now) in
    rw (append-nil done, append-nil tolds) at all
