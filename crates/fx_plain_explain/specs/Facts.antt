-- What a frame is made of, handed on to the frames above.
pub use Rattle.fx_stage_facts.specs.Attached.{look_cost, looked}
pub use Rattle.fx_stage_facts.specs.Boxes.{box_facts}
pub use Rattle.fx_stage_facts.specs.Publishing.{Size, published, sized}
pub use Rattle.fx_stage_facts.specs.Scenes.{disabled_flags}
pub use Rattle.fx_stage_facts.specs.Sheets.{sheets_of}
pub use Rattle.fx_stage_facts.specs.Styles.{style_facts}
