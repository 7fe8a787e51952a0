-- Which options a run can have.
use Rattle.std.specs.Prelude.{◌≤◌}
use Rattle.run_options.specs.declared.TheConstants.{MAX_CAPACITY, MAX_WORKERS}
use Rattle.run_options.specs.declared.Options.{Options}

-- Workers and capacity are in range.
pub record AreInRange (options : Options) : Type 0 where
  pub some_worker : 1 ≤ options.workers
  pub workers : options.workers ≤ MAX_WORKERS
  pub some_capacity : 1 ≤ options.capacity
  pub capacity : options.capacity ≤ MAX_CAPACITY
