-- `fill::note_form` meets its contract: the form is passed, or put together and noted.
use Rattle.shared_forms.specs.ComposeLaws.{notes_pass, notes_refused, notes_done}
use Rattle.shared_forms.proofs.fill.note_form.Goals as goal

pub returns-then-notes-x-eq0 : goal.returns-then-notes-x-eq0
returns-then-notes-x-eq0 c = notes_pass c.requires.1.1 c.if-notes-x-eq0.true

pub returns-then-r-gt-MAX_NODES : goal.returns-then-r-gt-MAX_NODES
returns-then-r-gt-MAX_NODES c = notes_refused c.if-r-gt-MAX_NODES.true c.compose-r.ensures

pub returns : goal.returns
returns c =
    notes_done c.requires.1.0 c.if-notes-x-eq0.false c.compose-r.ensures
