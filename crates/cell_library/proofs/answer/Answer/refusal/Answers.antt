use Rattle.cell_library.proofs.AnswersLaws.{refused_with, short_with}
use Rattle.cell_library.proofs.answer.Answer.refusal.Goals as goal

pub returns-in-Ok : goal.returns-in-Ok
returns-in-Ok g c = refused_with c.args.program.now c.args.code _ c.in-Ok.text c.new.result c.new.ensures c.in-Ok.ensures

pub returns-in-Err : goal.returns-in-Err
returns-in-Err g c = short_with c.args.program.now c.args.code _ c.short.result c.short.ensures
