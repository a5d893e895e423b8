-- A scenario with borrowed parts, as a scenario.
use Rattle.scenario.specs.Scenario.{Scenario}
use Rattle.scenario.specs.declared.lent.ScenarioRef.{ScenarioRef}

abbrev pub lent : ScenarioRef → Scenario
lent s = record {
  image = s.image.now;
  words = s.words.now;
  setup = s.setup.now;
  marks = s.marks.now;
  rules = s.suppressions.now;
  options = s.options.now;
  step = s.step;
  limit = s.limit;
}
