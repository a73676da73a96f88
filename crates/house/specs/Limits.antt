-- Every limit of document 01 and every phase of a job, each under one name. The code's constants of the same names stand in src/lib.rt.
use Rattle.std.specs.Prelude.{ℕ}

-- districts G: 1 to 4
abbrev pub most_districts : ℕ
most_districts = 4

-- boxes of the largest plan: districts of three
abbrev pub most_boxes : ℕ
most_boxes = 12

-- jobs J: 1 to 64
abbrev pub most_jobs : ℕ
most_jobs = 64

-- the phases of a job at a box: 0 start, 1 proposed, 2 accepted, 3 committed
abbrev pub start_phase : ℕ
start_phase = 0

abbrev pub proposed_phase : ℕ
proposed_phase = 1

abbrev pub accepted_phase : ℕ
accepted_phase = 2

abbrev pub committed_phase : ℕ
committed_phase = 3

-- clock and stamp time: at most 1,000,000
abbrev pub most_time : ℕ
most_time = 1000000

-- ballot number: at most 65,535
abbrev pub most_number : ℕ
most_number = 65535

-- a tray has at least 4,096 bytes
abbrev pub least_tray : ℕ
least_tray = 4096

-- of a post at most 65,536 bytes are used
abbrev pub most_post : ℕ
most_post = 65536

-- the job byte of a record whose kind has no job
abbrev pub no_job : ℕ
no_job = 255
