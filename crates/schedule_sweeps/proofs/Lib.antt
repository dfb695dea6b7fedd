mod Sweeping
