-- The two sides. Their targets are in Target.antt.
pub data Side : Type 0 where
  Risk : Side
  Hazard : Side
