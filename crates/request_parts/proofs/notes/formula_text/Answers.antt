use Rattle.request_parts.proofs.notes.formula_text.Goals as goal

pub returns-in-AfterMatrix : goal.returns-in-AfterMatrix
returns-in-AfterMatrix c = rw c.in-AfterMatrix.is c.line_text-in-AfterMatrix.ensures

pub returns-in_ok-words-in-BoundTwice : goal.returns-in_ok-words-in-BoundTwice
returns-in_ok-words-in-BoundTwice c = rw c.in-BoundTwice.is (rw (c.deref-in-BoundTwice.ensures, c.in_ok-words-in-BoundTwice.ensures.ok) at c.line_text-in-BoundTwice.ensures)

pub returns-in_ok-words-in-TooManyVariables : goal.returns-in_ok-words-in-TooManyVariables
returns-in_ok-words-in-TooManyVariables c = rw c.in-TooManyVariables.is (rw (c.deref-in-TooManyVariables.ensures, c.in_ok-words-in-TooManyVariables.ensures.ok) at c.line_text-in-TooManyVariables.ensures)
