-- What a fault of threads is one layer above.
use Rattle.pool.specs.declared.faults.ThreadsFault.{ThreadsFault}
use Rattle.pool.specs.declared.faults.ThreadsFault.TheVariants as threads
use Rattle.run_options.specs.declared.fault.PoolFault.{PoolFault}
use Rattle.run_options.specs.declared.fault.PoolFault.TheVariants as pool

abbrev pub fault_of_threads : ThreadsFault → PoolFault
fault_of_threads threads.Memory = pool.Memory
fault_of_threads threads.Spawn = pool.Spawn
