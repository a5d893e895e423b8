use Rattle.driver.proofs.carrying.run_order.Goals as goal

pub returns-in-Do : goal.returns-in-Do
returns-in-Do g c = rw (c.in-Do.is, c.ended.ensures) c.follow_order.ensures

pub returns-in-Sweep : goal.returns-in-Sweep
returns-in-Sweep g c = rw (c.in-Sweep.is, c.ended-in-Sweep.ensures) c.follow_sweep.ensures
