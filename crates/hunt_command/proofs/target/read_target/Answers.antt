use Rattle.std.proofs.Common.{refl, ◌∙◌}
use Rattle.std.proofs.lemmas.Result.{err_from_is_err_and}
use Rattle.hunt_command.specs.Heard.{texts_of}
use Rattle.hunt_command.proofs.FilesLaws.{expected_cause, passed_cause, expected_refuses, passed_refuses, expects, passes}
use Rattle.hunt_command.proofs.target.read_target.Goals as goal

pub returns-in_err-expected-clause-cause : goal.returns-in_err-expected-clause-cause
returns-in_err-expected-clause-cause g c =
    let p = err_from_is_err_and c.from_residual-in_err-expected.result c.from_residual-in_err-expected.ensures.1 in
    rw (p.1, p.2) (expected_cause c.args.machine.now (texts_of c.args.expect) (texts_of c.args.pass) _ _ _ c.in_err-expected.field-0.0 c.in_ok-setup.ensures.kept c.in_err-expected.ensures.cause)

pub returns-in_err-expected-clause-comes : goal.returns-in_err-expected-clause-comes
returns-in_err-expected-clause-comes g c = λ told is.
    let p = err_from_is_err_and c.from_residual-in_err-expected.result c.from_residual-in_err-expected.ensures.1 in
    rw (p.1, p.2) (expected_refuses told c.args.machine.now (texts_of c.args.expect) (texts_of c.args.pass) c.in_ok-setup.setup _ _ _ c.in_err-expected.field-0.0 c.in_ok-setup.ensures.kept (c.in_ok-setup.ensures.comes told is).0
    c.in_err-expected.ensures.cause
    (c.in_err-expected.ensures.comes told (c.read_machine.ensures.same ∙ is)))

pub returns-in_err-passed-clause-cause : goal.returns-in_err-passed-clause-cause
returns-in_err-passed-clause-cause g c =
    let p = err_from_is_err_and c.from_residual-in_err-passed.result c.from_residual-in_err-passed.ensures.1 in
    rw (p.1, p.2) (passed_cause c.args.machine.now (texts_of c.args.expect) (texts_of c.args.pass) _ _ _ c.in_err-passed.field-0.0 (c.in_ok-expected.ensures.kept ∙ c.in_ok-setup.ensures.kept) c.in_err-passed.ensures.cause)

pub returns-in_err-passed-clause-comes : goal.returns-in_err-passed-clause-comes
returns-in_err-passed-clause-comes g c = λ told is.
    let p = err_from_is_err_and c.from_residual-in_err-passed.result c.from_residual-in_err-passed.ensures.1 in
    let m = c.in_ok-setup.ensures.comes told is in
    rw (p.1, p.2) (passed_refuses told c.args.machine.now (texts_of c.args.expect) (texts_of c.args.pass) c.in_ok-setup.setup c.in_ok-setup.places _ _ _ _ c.in_err-passed.field-0.0
    (c.in_ok-expected.ensures.kept ∙ c.in_ok-setup.ensures.kept) m.0 m.1
    (expects told (texts_of c.args.expect) c.in_ok-expected.expected (c.in_ok-expected.ensures.comes told (c.read_machine.ensures.same ∙ is))) c.in_err-passed.ensures.cause
    (c.in_err-passed.ensures.comes told (c.expected_by.ensures.same ∙ c.read_machine.ensures.same ∙ is)))

pub returns-clause-comes : goal.returns-clause-comes
returns-clause-comes g c = λ told is.
    let m = c.in_ok-setup.ensures.comes told is in
    record {
      setup = m.0;
      places = m.1;
      expected = expects told (texts_of c.args.expect) c.in_ok-expected.expected (c.in_ok-expected.ensures.comes told (c.read_machine.ensures.same ∙ is));
      passed = passes told (texts_of c.args.pass) c.in_ok-setup.setup c.in_ok-setup.places c.in_ok-passed.passed
          (c.in_ok-passed.ensures.comes told (c.expected_by.ensures.same ∙ c.read_machine.ensures.same ∙ is));
      warning = refl;
    }
