use Rattle.hunt_reports.proofs.race_lines.put_actor.Goals as goal

pub returns-in-Piece : goal.returns-in-Piece
returns-in-Piece c = rw c.in-Piece.is c.put_part.ensures

pub returns-in-Elem : goal.returns-in-Elem
returns-in-Elem c = rw c.in-Elem.is c.put_part-in-Elem.ensures

pub returns-in-Retire : goal.returns-in-Retire
returns-in-Retire c = rw c.in-Retire.is c.put_part-in-Retire.ensures
