-- the zeros are ASCII, and fill what is left of the room
use Rattle.std.proofs.Common.{◌∙◌, ℕ, List, drop, length, replicate}
use Rattle.std.proofs.lemmas.List.{drop-replicate}
use lib.Seq.{drop-append_seam}
use Rattle.fx_base.proofs.TextLemmas.{IsAscii-before_zeros}
use Rattle.fx_base.proofs.short_texts.in_room.Goals as goal

pub returns-clause-ascii : goal.returns-clause-ascii
returns-clause-ascii c = rw c.copy_from_slice.ensures.after (IsAscii-before_zeros c.args.text.now (length c.args.text.now) 30)

pub returns-clause-behind : goal.returns-clause-behind
returns-clause-behind c =
    let text : List ℕ = c.args.text.now in
    rw c.copy_from_slice.ensures.after
    (drop-append_seam text (drop (length text) (replicate 30 0)) ∙ drop-replicate (length text) 30 0)
