-- Publications of sizes that all stay.
use Rattle.std.specs.Prelude.{◌≡◌, ℕ, List, [], None, Some}
use Rattle.fx_store_model.specs.declared.changes.Notices.{Notices}
use Rattle.fx_store_model.specs.Stored.{with_unread}
use Rattle.fx_stage_model.specs.World.{World, with_store}
use Rattle.fx_stage_facts.specs.Attached.{looked}
use Rattle.fx_stage_facts.specs.Publishing.{Size, published, sized}

-- nobody is told
abbrev pub nothing_told : Notices
nothing_told = record { added = None; invalid = []; changed = [] }

-- No size was another: all is as before but for reads and the window, nobody is told, and to read what a frame reads
-- and to publish the same once more leaves the world as it is, and tells nobody either.
pub record IsStill (window : ℕ × ℕ) (sizes : List Size) (before now : World) : Type 0 where
  pub rest :
      now ≡ record (with_store (with_unread now.store.unread before.store) before) { window = Some window }
  pub quiet : (sized sizes before).notices ≡ nothing_told
  pub read : (world : World) → before ≡ looked world → looked now ≡ now
  pub again : published window sizes now ≡ now
  pub told : (sized sizes now).notices ≡ nothing_told
