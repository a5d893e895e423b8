use Rattle.driver.proofs.FaultLines.{faults_are_lines, pairs_are_lines}
use Rattle.driver.proofs.laws.faults_are_lines.Goals as goal

pub returns-clause-faults : goal.returns-clause-faults
returns-clause-faults c = faults_are_lines

pub returns-clause-pairs : goal.returns-clause-pairs
returns-clause-pairs c = pairs_are_lines
