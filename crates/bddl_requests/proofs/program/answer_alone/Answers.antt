use Rattle.std.proofs.Common.{map}
use Rattle.bddl_model.specs.declared.command.Command.TheVariants.{Compile, Solve, SolveFormula, Certify, Check, Recertify, Trial, FormatDomain, FormatProblem}
use Rattle.bddl_model.specs.Request.{limits_of}
use Rattle.bddl_requests.proofs.Answered.{nothing_left, one_file, three_files, two_files, written_by, written_by_number, written_by_numbers}
use Rattle.request_parts.proofs.Files.{within_length}
use Rattle.bddl_requests.proofs.program.answer_alone.Goals as goal

pub returns-in-Compile-clause-written : goal.returns-in-Compile-clause-written
returns-in-Compile-clause-written g c replies =
    let two = rw c.in-Compile.is at (within_length (limits_of c.args.request.now.command) (map (λ w. w.items) c.args.contents.now) c.requires.within) in
    let files = two_files (λ w. w.items) c.args.contents.now c.index-contents-0.result c.index-contents-1.result c.deref.result.now c.deref-in-Compile.result.now two c.index-contents-0.is c.index-contents-1.is c.deref.ensures.value c.deref-in-Compile.ensures.value in
    written_by Compile _ _ _ _ replies _ _ _ c.in-Compile.is files (rw c.in-Compile.is at c.requires.numbers) c.compile.ensures.written

pub returns-in-FormatDomain-clause-written : goal.returns-in-FormatDomain-clause-written
returns-in-FormatDomain-clause-written g c replies =
    let one = rw c.in-FormatDomain.is at (within_length (limits_of c.args.request.now.command) (map (λ w. w.items) c.args.contents.now) c.requires.within) in
    let files = one_file (λ w. w.items) c.args.contents.now c.index-contents-0-in-FormatDomain.result c.deref-in-FormatDomain.result.now one c.index-contents-0-in-FormatDomain.is c.deref-in-FormatDomain.ensures.value in
    written_by FormatDomain _ _ _ _ replies _ _ _ c.in-FormatDomain.is files (rw c.in-FormatDomain.is at c.requires.numbers) c.format_domain.ensures.written

pub returns-in-FormatProblem-clause-written : goal.returns-in-FormatProblem-clause-written
returns-in-FormatProblem-clause-written g c replies =
    let one = rw c.in-FormatProblem.is at (within_length (limits_of c.args.request.now.command) (map (λ w. w.items) c.args.contents.now) c.requires.within) in
    let files = one_file (λ w. w.items) c.args.contents.now c.index-contents-0-in-FormatProblem.result c.deref-in-FormatProblem.result.now one c.index-contents-0-in-FormatProblem.is c.deref-in-FormatProblem.ensures.value in
    written_by FormatProblem _ _ _ _ replies _ _ _ c.in-FormatProblem.is files (rw c.in-FormatProblem.is at c.requires.numbers) c.format_problem.ensures.written

pub returns-in-Solve-clause-written : goal.returns-in-Solve-clause-written
returns-in-Solve-clause-written g c replies =
    let two = rw c.in-Solve.is at (within_length (limits_of c.args.request.now.command) (map (λ w. w.items) c.args.contents.now) c.requires.within) in
    let files = two_files (λ w. w.items) c.args.contents.now c.index-contents-0-in-Solve.result c.index-contents-1-in-Solve.result c.deref-in-Solve.result.now c.deref-in-Solve-2.result.now two c.index-contents-0-in-Solve.is c.index-contents-1-in-Solve.is c.deref-in-Solve.ensures.value c.deref-in-Solve-2.ensures.value in
    written_by_number Solve _ _ _ _ replies _ _ _ c.in-Solve.is files c.index.result.now (rw c.in-Solve.is at c.requires.numbers) c.index.ensures c.solve.ensures.written

pub returns-in-SolveFormula-clause-written : goal.returns-in-SolveFormula-clause-written
returns-in-SolveFormula-clause-written g c replies =
    let one = rw c.in-SolveFormula.is at (within_length (limits_of c.args.request.now.command) (map (λ w. w.items) c.args.contents.now) c.requires.within) in
    let files = one_file (λ w. w.items) c.args.contents.now c.index-contents-0-in-SolveFormula.result c.deref-in-SolveFormula.result.now one c.index-contents-0-in-SolveFormula.is c.deref-in-SolveFormula.ensures.value in
    written_by_number SolveFormula _ _ _ _ replies _ _ _ c.in-SolveFormula.is files c.index-in-SolveFormula.result.now (rw c.in-SolveFormula.is at c.requires.numbers) c.index-in-SolveFormula.ensures c.solve_formula.ensures.written

pub returns-in-Certify-clause-written : goal.returns-in-Certify-clause-written
returns-in-Certify-clause-written g c replies =
    let two = rw c.in-Certify.is at (within_length (limits_of c.args.request.now.command) (map (λ w. w.items) c.args.contents.now) c.requires.within) in
    let files = two_files (λ w. w.items) c.args.contents.now c.index-contents-0-in-Certify.result c.index-contents-1-in-Certify.result c.deref-in-Certify.result.now c.deref-in-Certify-2.result.now two c.index-contents-0-in-Certify.is c.index-contents-1-in-Certify.is c.deref-in-Certify.ensures.value c.deref-in-Certify-2.ensures.value in
    written_by_number Certify _ _ _ _ replies _ _ _ c.in-Certify.is files c.index-in-Certify.result.now (rw c.in-Certify.is at c.requires.numbers) c.index-in-Certify.ensures c.certify.ensures.written

pub returns-in-Check-clause-written : goal.returns-in-Check-clause-written
returns-in-Check-clause-written g c replies =
    let three = rw c.in-Check.is at (within_length (limits_of c.args.request.now.command) (map (λ w. w.items) c.args.contents.now) c.requires.within) in
    let files = three_files (λ w. w.items) c.args.contents.now c.index-contents-0-in-Check.result c.index-contents-1-in-Check.result c.index-contents-2.result c.deref-in-Check.result.now c.deref-in-Check-2.result.now c.deref-in-Check-3.result.now three c.index-contents-0-in-Check.is c.index-contents-1-in-Check.is c.index-contents-2.is c.deref-in-Check.ensures.value c.deref-in-Check-2.ensures.value c.deref-in-Check-3.ensures.value in
    written_by Check _ _ _ _ replies _ _ _ c.in-Check.is files (rw c.in-Check.is at c.requires.numbers) c.check.ensures.written

pub returns-in-Recertify-clause-written : goal.returns-in-Recertify-clause-written
returns-in-Recertify-clause-written g c replies =
    let three = rw c.in-Recertify.is at (within_length (limits_of c.args.request.now.command) (map (λ w. w.items) c.args.contents.now) c.requires.within) in
    let files = three_files (λ w. w.items) c.args.contents.now c.index-contents-0-in-Recertify.result c.index-contents-1-in-Recertify.result c.index-contents-2-in-Recertify.result c.deref-in-Recertify.result.now c.deref-in-Recertify-2.result.now c.deref-in-Recertify-3.result.now three c.index-contents-0-in-Recertify.is c.index-contents-1-in-Recertify.is c.index-contents-2-in-Recertify.is c.deref-in-Recertify.ensures.value c.deref-in-Recertify-2.ensures.value c.deref-in-Recertify-3.ensures.value in
    written_by Recertify _ _ _ _ replies _ _ _ c.in-Recertify.is files (rw c.in-Recertify.is at c.requires.numbers) c.recertify.ensures.written

pub returns-in-Trial-clause-written : goal.returns-in-Trial-clause-written
returns-in-Trial-clause-written g c replies =
    let none = rw c.in-Trial.is at (within_length (limits_of c.args.request.now.command) (map (λ w. w.items) c.args.contents.now) c.requires.within) in
    let files = nothing_left (map (λ w. w.items) c.args.contents.now) none in
    written_by_numbers Trial _ _ _ _ replies _ _ _ c.in-Trial.is files c.index-in-Trial.result.now c.index-in-Trial-2.result.now (rw c.in-Trial.is at c.requires.numbers) c.index-in-Trial.ensures c.index-in-Trial-2.ensures c.trial.ensures.written
