mod Saying
