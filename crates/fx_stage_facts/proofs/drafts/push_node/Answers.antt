use Rattle.fx_stage_facts.proofs.drafts.push_node.Goals as goal

pub returns-in_ok-push_bare-in-None-clause-put : goal.returns-in_ok-push_bare-in-None-clause-put
returns-in_ok-push_bare-in-None-clause-put c = (
  record {
    stands = c.in_ok-push_bare-in-None.ensures.stands;
    marks = c.in_ok-push_bare-in-None.ensures.marks;
    sheets = c.in_ok-push_bare-in-None.ensures.sheets;
    styles = c.in_ok-push_bare-in-None.ensures.styles;
    boxes = c.in_ok-push_bare-in-None.ensures.boxes;
  },
  c.in_ok-push_bare-in-None.ensures.read,
)

pub returns-in_ok-push_present-in-Some-clause-put : goal.returns-in_ok-push_present-in-Some-clause-put
returns-in_ok-push_present-in-Some-clause-put c = (
  record {
    stands = c.in_ok-push_present-in-Some.ensures.stands;
    marks = c.in_ok-push_present-in-Some.ensures.marks;
    sheets = c.in_ok-push_present-in-Some.ensures.sheets;
    styles = c.in_ok-push_present-in-Some.ensures.styles;
    boxes = c.in_ok-push_present-in-Some.ensures.boxes;
  },
  c.in_ok-push_present-in-Some.ensures.read,
)
