-- A setup as it is stored.
use Rattle.blk_trace.specs.Setups.{Setup}
use Rattle.blk_trace.specs.declared.setup.Setup.TheInside.{Inside}

-- the setup that is stored, of what it means
abbrev pub stored_setup : Setup → Inside
stored_setup s = record { depth = s.depth; hw = s.hw; read_expire = s.read_expire; write_expire = s.write_expire; limits = s.limits }
